-- What the words ask of a feed: its timetable, or the first cause to refuse it.
use Rattle.std.specs.Prelude.{Result}
use Rattle.mt_base.specs.declared.options.Opts.{Opts}
use Rattle.mt_base.specs.declared.tables.Tables.{Tables}
use Rattle.delay_model.specs.declared.network.Network.{Network}
use Rattle.command_words.specs.Words.{Asked, asked_bases}
use Rattle.feed_load.specs.Loaded.{Timetable, loaded}
use Rattle.gtfs_tables.specs.declared.refusals.FeedRefusal.{FeedRefusal}
use Rattle.gtfs_tables.specs.Feeds.{Files, contents_of, tables_of}

-- what no message changes: the stops, change rows and waiting rules of the tables, and the options
abbrev pub network : Tables → Opts → Network
network t o = record { stops = t.stops; transfers = t.transfers; rules = t.rules; opts = o }

-- the tables of the feed that the words ask for, or why it is refused
abbrev pub tables_in : Files → Asked → Result Tables FeedRefusal
tables_in told a = tables_of (contents_of told a.folder)

-- the state and the names of the timetable that the words ask for, or why its feed is refused
abbrev pub asked_in : Files → Asked → Result Timetable FeedRefusal
asked_in told a = loaded (contents_of told a.folder) a.first a.days (asked_bases a) a.opts
