-- The calls of a trip on a service day: GTFS Schedule, `stop_times.txt`.
use Rattle.std.specs.Prelude.{ℕ, ◌+◌, ◌≤◌, List, Option, IfSome}
use Rattle.std.specs.List.{filter_map}
use Rattle.std.specs.Option.{option_map}
use Rattle.mt_base.specs.declared.tables.CallRow.{CallRow}
use Rattle.feed_tables.specs.Calls.{in_order, sequence, both_times}
use Rattle.call_lines.specs.declared.calls.TableCall.{TableCall}

-- the call of a row, with these times on a service day with this base
abbrev pub call_at : ℕ → CallRow → ℕ × ℕ → TableCall
call_at base r times =
    record {
      stop = r.stop;
      arr = base + times.0;
      dep = base + times.1;
      board = r.board;
      alight = r.alight;
    }

-- the call of a row on a service day with this base, if the row has a time
abbrev pub timed_call : ℕ → CallRow → Option TableCall
timed_call base r = option_map (call_at base r) (both_times r.arr r.dep)

-- the calls of the rows that have a time
abbrev pub timed_calls : ℕ → List CallRow → List TableCall
timed_calls base rows = filter_map (timed_call base) rows

-- the calls of a trip on a service day with this base, from its rows in any order: those with a
-- time, by `stop_sequence`
abbrev pub trip_calls : ℕ → List CallRow → List TableCall
trip_calls base rows = timed_calls base (in_order sequence rows)

-- the times of a row are at most 99:59:59
pub record IsTimely (r : CallRow) : Type 0 where
  pub arr : IfSome r.arr (λ t. t ≤ 359999)
  pub dep : IfSome r.dep (λ t. t ≤ 359999)
