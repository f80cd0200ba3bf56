use Rattle.std.proofs.lemmas.Result.{err_from_is_err_and}
use Rattle.gtfs_tables.specs.Feeds.{contents_of, tables_of}
use Rattle.gtfs_tables.proofs.FeedLemmas.{stops-at}
use Rattle.feed_load.specs.Loaded.{loaded}
use Rattle.feed_load.proofs.load.load_feed.Goals as goal

pub returns-in_err-tables-clause-exact : goal.returns-in_err-tables-clause-exact
unfolding loaded
returns-in_err-tables-clause-exact g c = λ files is.
    let p = err_from_is_err_and c.from_residual.result c.from_residual.ensures.1 in
    rw (p.1, p.2) (stops-at c.in_err-tables.field-0.0 (tables_of (contents_of files c.args.folder.now)) _ (c.in_err-tables.ensures.exact files is))

pub returns-clause-exact : goal.returns-clause-exact
unfolding loaded
returns-clause-exact g c = λ files is. rw (c.in_ok-tables.ensures.exact files is) c.load_tables.ensures.found
