-- What the proofs of this crate speak of, passed on from one place.
unfoldable pub use Rattle.csv.specs.Machine.{next_record}
pub use Rattle.csv.specs.Reading.{AreRecords, default_config}
unfoldable pub use Rattle.csv.specs.Reading.{Reached}
pub use Rattle.csv.specs.Records.{fields_of}
pub use Rattle.csv.specs.declared.parser.State.{State}
pub use Rattle.csv.specs.declared.reader.Reader.{Reader}
pub use Rattle.feed_tables.proofs.OrderLemmas.{Rises}
pub use Rattle.feed_tables.specs.Calls.{calls_of, in_order, sequence}
pub use Rattle.feed_tables.specs.Lawful.{HasKind, IsCall, IsTransfer, IsTripwise}
unfoldable pub use Rattle.feed_tables.specs.Lawful.{AreDistinct}
pub use Rattle.gtfs_tables.specs.Calendar.{Calendar}
pub use Rattle.gtfs_tables.specs.CalendarDates.{Dates}
pub use Rattle.gtfs_tables.specs.Checks.{Step, all_utf8, check, fault, ◌>>=◌}
unfoldable pub use Rattle.gtfs_tables.specs.Checks.{rows_from, table_from}
pub use Rattle.gtfs_tables.specs.Columns.{field_in, place_of}
pub use Rattle.gtfs_tables.specs.Feeds.{Contents, Records, absent, holds}
unfoldable pub use Rattle.gtfs_tables.specs.Feeds.{calendar_in, calls_in, dates_in, rules_in, stops_in, transfers_in, trips_in}
pub use Rattle.gtfs_tables.specs.Fields.{number_of, time_of, trim_start}
unfoldable pub use Rattle.gtfs_tables.specs.Fields.{digits_after}
pub use Rattle.gtfs_tables.specs.Ids.{number_of_id}
pub use Rattle.gtfs_tables.specs.Numbers.{names_with, number_from, number_in}
unfoldable pub use Rattle.gtfs_tables.specs.Records.{records_of}
pub use Rattle.gtfs_tables.specs.Sheets.{IsUnder}
pub use Rattle.gtfs_tables.specs.StopTimes.{Key, Named, call_step, is_timed, key_cmp, last_call}
unfoldable pub use Rattle.gtfs_tables.specs.StopTimes.{check_order, check_trip, check_trips}
pub use Rattle.gtfs_tables.specs.Stops.{line_ids, stop_ids}
unfoldable pub use Rattle.gtfs_tables.specs.Stops.{with_stations}
pub use Rattle.gtfs_tables.specs.Texts.{AreRecordsOf, Remains, Steps, Text}
pub use Rattle.gtfs_tables.specs.Trips.{ListedTrips}
pub use Rattle.gtfs_tables.specs.WaitingRules.{Rules}
pub use Rattle.gtfs_tables.specs.declared.columns.Column.{Column}
pub use Rattle.gtfs_tables.specs.declared.columns.Column.TheVariants.{ServiceId}
pub use Rattle.gtfs_tables.specs.declared.faults.Cause.TheVariants.{BadNumber, UnknownReference}
pub use Rattle.gtfs_tables.specs.declared.faults.Fault.{Fault}
pub use Rattle.gtfs_tables.specs.declared.keyed_calls.CallTimes.{CallTimes}
pub use Rattle.mt_base.specs.declared.places.PlaceKind.TheVariants.{Platform}
pub use Rattle.mt_base.specs.declared.tables.CallRow.{CallRow}
pub use Rattle.mt_base.specs.declared.tables.StopRow.{StopRow}
pub use Rattle.mt_base.specs.declared.tables.TransferRow.{TransferRow}
pub use Rattle.mt_base.specs.declared.tables.TripRow.{TripRow}
pub use Rattle.std.proofs.Common.{All, Bool, Err, IfSome, List, None, Ok, Option, Result, Some, [], ap, append-nil, append_assoc, arith, cond, drop, false, get_or, if◌then◌else◌, inl, inr, is_none, length, map, nat_eq, not, option_and_then, refl, reverse, rules, subst, suc, sym, take, true, zero, ℕ, ◌&&◌, ◌*◌, ◌++◌, ◌+◌, ◌-◌, ◌<◌, ◌==◌, ◌^◌, ◌∙◌, ◌∷◌, ◌≡◌, ◌≢◌, ◌≤◌}
pub use Rattle.std.proofs.lemmas.Grind.{common_steps}
pub use Rattle.std.proofs.lemmas.List.{length-map, map_push}
pub use Rattle.std.proofs.lemmas.List.Elements.{All-cons, All-head, All-nil, All-push, All-tail, All-weaker}
pub use Rattle.std.proofs.lemmas.Map.Text.{btree_map_updates_text}
pub use Rattle.std.proofs.lemmas.Result.{IfOk-weaker}
pub use Rattle.std.proofs.lemmas.Slice.Eq.{bytes_eq-Decides}
pub use Rattle.std.proofs.lemmas.Str.{IsUtf8-from_is_utf8, is_utf8-from_IsUtf8}
pub use Rattle.std.specs.BTreeMap.{insert_entry, is_at}
pub use Rattle.std.specs.Map.{lookup}
pub use Rattle.std.specs.Ordering.{nat_cmp}
pub use Rattle.std.specs.Prelude.{IsUtf8, bytes_eq, string_bytes}
