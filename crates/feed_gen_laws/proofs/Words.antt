-- What these proofs speak of, passed on from one place.
pub use Rattle.std.proofs.Common.{Bool, List, None, Ok, Option, Some, [], ap, append-nil, append_assoc, arith, codes, false, get_or, inl, inr, length, map, refl, suc, sym, true, zero, ℕ, ◌%◌, ◌*◌, ◌++◌, ◌+◌, ◌/◌, ◌<◌, ◌∙◌, ◌∷◌, ◌≡◌, ◌≤◌}
pub use Rattle.std.proofs.lemmas.Bool.{cases_eq, eq-eqb, le-leb, le-ltb, ne_eqb}
pub use Rattle.std.proofs.lemmas.Bool.Decides.{nat_tests}
pub use Rattle.std.proofs.lemmas.List.FromFn.{length-map-range_with_len}
pub use Rattle.std.specs.List.{flat_map, range_with_len}
pub use Rattle.std.specs.Prelude.{decimal}
unfoldable pub use Rattle.std.specs.Str.{chars, is_utf8}
unfoldable pub use lib.Utf8.{encode}
unfoldable pub use Rattle.csv.specs.Machine.{next_record}
unfoldable pub use Rattle.csv.specs.Reading.{records_from, strip_bom}
pub use Rattle.csv.specs.Writing.{default_writer}
pub use Rattle.feed_gen.proofs.Bounds.{tables-short}
pub use Rattle.feed_gen.specs.Tables.{files, row}
unfoldable pub use Rattle.feed_gen.specs.Tables.{table_named}
unfoldable pub use Rattle.feed_gen.specs.Texts.{clock, texts_below}
pub use Rattle.feed_gen.specs.Trains.{stop_name, trip_name}
unfoldable pub use Rattle.gtfs_tables.specs.Checks.{rows_from, table_from}
pub use Rattle.gtfs_tables.specs.Columns.{place_of}
pub use Rattle.gtfs_tables.specs.Feeds.{contents_of, holds}
pub use Rattle.gtfs_tables.specs.Fields.{number_of, time_of}
unfoldable pub use Rattle.gtfs_tables.specs.Fields.{digits_after}
pub use Rattle.gtfs_tables.specs.Numbers.{number_from}
unfoldable pub use Rattle.gtfs_tables.specs.Records.{records_of}
pub use Rattle.gtfs_tables.specs.StopTimes.{stop_named}
pub use Rattle.gtfs_tables.specs.Trips.{trip_ids}
pub use Rattle.mt_base.specs.declared.tables.CallRow.{CallRow}
pub use Rattle.mt_base.specs.declared.tables.StopRow.{StopRow}
pub use Rattle.schedule_build.specs.Runs.{all_runs}
