-- From when on passengers can board at the stops, and behind which ride.
use Rattle.std.specs.Prelude.{ℕ, ◌+◌, List, [], ◌∷◌, if◌then◌else◌, Option, Some, set}
use Rattle.change_times.specs.declared.change.Change.{Change}
use Rattle.conn_scan.specs.StopTimes.{is_earlier}
use Rattle.conn_scan.specs.declared.openings.Openings.{Openings}
use Rattle.conn_scan.specs.declared.stop_rides.Stretch.{Stretch}

-- once passengers can board at stop b from time t on, behind this ride: of two times the earlier is
-- kept, and of two at one time the first
abbrev pub improved : ℕ → ℕ → Option Stretch → Openings → Openings
improved b t ride ls =
    if is_earlier ls.times b t
    then record { times = set ls.times b (Some t); rides = set ls.rides b ride } else ls

-- once each of these changes, begun at this time behind this ride, is one way more
abbrev pub lowered : ℕ → Option Stretch → List Change → Openings → Openings
lowered at ride [] ls = ls
lowered at ride (c ∷ cs) ls = lowered at ride cs (improved c.stop (at + c.seconds) ride ls)
