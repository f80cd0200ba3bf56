-- What a scan knows before the first departure.
use Rattle.std.specs.Prelude.{ℕ, List, Option, None, nat_eq, if◌then◌else◌, Some, length, replicate}
use Rattle.std.specs.List.{filter_map}
use Rattle.mt_base.specs.declared.journeys.Query.{Query}
use Rattle.change_times.specs.declared.change.Change.{Change}
use Rattle.change_times.specs.ChangeTables.{ChangeTables}
use Rattle.change_times.specs.Reach.{places, reached}
use Rattle.delay_model.specs.Changes.{station}
use Rattle.conn_scan.specs.Openings.{lowered}
use Rattle.conn_scan.specs.declared.known.Known.{Known}

-- nothing
abbrev pub cleared : Known → Known
cleared k =
    record {
      openings = record {
        times = replicate (length k.openings.times) None;
        rides = k.openings.rides;
      };
      held = replicate (length k.held) None;
      aboard = replicate (length k.aboard) None;
      best = None;
    }

-- place b, where one need not change, if it is of the origin's station
abbrev pub place_at_origin : ChangeTables → Query → ℕ → Option Change
place_at_origin t q b =
    if nat_eq (station t.stops b) (station t.stops q.from_stop)
    then Some (record { stop = b; seconds = 0 }) else None

-- the places of the origin's station
abbrev pub at_origin : ChangeTables → Query → List Change
at_origin t q = filter_map (place_at_origin t q) (places t)

-- where passengers of the query can board without a ride
abbrev pub begun : ChangeTables → Query → Known → Known
begun t q k =
    record (cleared k) {
      openings = lowered q.time None (at_origin t q)
          (lowered q.time None (reached t q.from_stop) (cleared k).openings);
    }
