-- What the proofs of this crate speak of.
pub use Rattle.std.proofs.Common.{Bool, List, MatchBool, None, Option, Some, [], ap, arith, cond, drop, false, filter, get_or, inl, inr, is_some, length, map, nat_eq, nat_le, nat_lt, not, refl, replicate, reverse, set, slice_get, subst, suc, sym, true, unwrap_or, zero, ℕ, ◌&&◌, ◌++◌, ◌+◌, ◌-◌, ◌<◌, ◌∙◌, ◌∷◌, ◌≡◌, ◌≤◌, ◌⊎◌}
pub use Rattle.std.proofs.Math.Logic.{◌≢◌}
pub use Rattle.std.specs.List.{All, AllPairs, Contains, cons_option, filter_map, range_with_len}
pub use Rattle.std.specs.Option.{IfSome, MatchOption, option_and_then, option_map, option_map_or, option_or}
pub use Rattle.std.proofs.lemmas.Bool.{and_parts, both_ways, cases_Bool, cases_eq, cases_lt, cond-false, cond-true, cond_both, eq-eqb, eqb-true, leb-false, leb-true, ltb-false, ltb-true, ne_eqb}
pub use Rattle.std.proofs.lemmas.List.{append-nil, append_assoc, get_or-replicate, get_or-set_other, get_or-set_same, get_or_past, length-map, length-replicate, length-set}
pub use Rattle.std.proofs.lemmas.List.Elements.{All-cons, All-contains, All-get_or, All-head, All-map, All-nil, All-tail, All-weaker, Contains-append_left, Contains-append_right}
pub use Rattle.std.proofs.lemmas.Option.{get_or_from_slice_get, none-some, same_Some, slice_get_within}
pub use Rattle.mt_base.specs.declared.journeys.PlanRide.{PlanRide}
pub use Rattle.mt_base.specs.declared.journeys.Query.{Query}
pub use Rattle.mt_base.specs.declared.tables.StopRow.{StopRow}
pub use Rattle.delay_model.specs.AtStops.{AreAtStops}
unfoldable pub use Rattle.delay_model.specs.Changes.{change}
pub use Rattle.delay_model.specs.Changes.{is_stop, station}
pub use Rattle.delay_model.specs.Journeys.{HasNoJourney, IsEarliest, IsInTime, IsJourney, IsRide, is_one_station}
pub use Rattle.delay_model.specs.Valid.{IsValid}
pub use Rattle.delay_model.specs.declared.network.Network.{Network}
pub use Rattle.delay_model.specs.declared.state.State.{State}
pub use Rattle.change_times.specs.ChangeTables.{ChangeTables}
pub use Rattle.change_times.specs.Reach.{change_to, places}
unfoldable pub use Rattle.change_times.specs.Reach.{reached}
pub use Rattle.change_times.specs.declared.change.Change.{Change}
pub use Rattle.dep_order.specs.Departing.{held}
pub use Rattle.dep_order.specs.Ordered.{Ordered, onward_at}
pub use Rattle.dep_order.specs.declared.departure.Departure.{Departure}
pub use Rattle.dep_order.specs.declared.departure.Leaving.{Leaving}
pub use Rattle.journey_laws.specs.Reached.{HasArrived, HasArrivals, IsEarly, IsFinished, IsFromOrigin, IsOpen, MayBoard}
pub use Rattle.journey_laws.specs.Scans.{IsArrivalTaken, IsBestBy, IsBestTaken, IsScanOf}
pub use Rattle.conn_scan.specs.Aboard.{boarding_at}
pub use Rattle.conn_scan.specs.Begun.{at_origin, begun, cleared, place_at_origin}
pub use Rattle.conn_scan.specs.Openings.{improved, lowered}
pub use Rattle.conn_scan.specs.Scanned.{HasRoomFor, HasSameRoom, IsWithin, arrived, better, boarding, departed, ends_there, is_before, is_first_arrival, is_there_by, ride_by, rode, scanned, stayed}
pub use Rattle.conn_scan.specs.StopTimes.{is_by, is_earlier, never, time_at}
pub use Rattle.conn_scan.specs.Stretches.{IsAfter, IsHeld, IsRideOf, IsStretch, departure_at, leaving_from, may_alight, may_board, ride_of}
pub use Rattle.conn_scan.specs.Reached.{Access, AreExplained, CanBoard, IsBehind, IsPossible, IsReached, access_of, ride_along, ride_at, ride_before}
pub use Rattle.conn_scan.specs.Ways.{HasOpened, IsRidden, IsTakeable, IsWayBack, LeadsTo}
pub use Rattle.conn_scan.specs.declared.known.Ending.{Ending}
pub use Rattle.conn_scan.specs.declared.known.Known.{Known}
pub use Rattle.conn_scan.specs.declared.openings.Openings.{Openings}
pub use Rattle.conn_scan.specs.declared.stop_rides.Stretch.{Stretch}
