-- A small timetable of two trains, and messages about it. The train 0 runs from A over B, platform
-- 1, to C, and the train 1 from B, platform 2, to D. The second waits at B for the first, for 5
-- minutes at most.
use Rattle.std.specs.Prelude.{ℕ, ◌*◌, ◌+◌, List, [], ◌∷◌, Bool, true, false, Option, Some, None, Ok, map}
use Rattle.std.specs.FinMap.{empty}
use Rattle.mt_base.specs.declared.keys.Node.{Node}
use Rattle.mt_base.specs.declared.options.Opts.{Opts}
use Rattle.mt_base.specs.declared.new_calls.NewCall.{NewCall}
use Rattle.mt_base.specs.declared.journeys.Query.{Query}
use Rattle.mt_base.specs.declared.journeys.PlanRide.{PlanRide}
use Rattle.mt_base.specs.declared.places.PlaceKind.{PlaceKind}
use Rattle.mt_base.specs.declared.places.PlaceKind.TheVariants.{Platform, Station}
use Rattle.mt_base.specs.declared.tables.StopRow.{StopRow}
use Rattle.mt_base.specs.declared.tables.TransferRow.{TransferRow}
use Rattle.mt_base.specs.declared.tables.RuleRow.{RuleRow}
use Rattle.delay_model.specs.declared.network.Network.{Network}
use Rattle.delay_model.specs.declared.state.EventValues.{EventValues}
use Rattle.delay_model.specs.declared.state.Call.{Call}
use Rattle.delay_model.specs.declared.state.Train.{Train}
use Rattle.delay_model.specs.declared.state.State.{State}
use Rattle.delay_model.specs.declared.state.Event.{Event}
use Rattle.delay_model.specs.declared.messages.Message.{Message}
use Rattle.delay_model.specs.declared.messages.Message.TheVariants.{Report, Forecast, Correct, Reroute, Cancel, Extra, Keep, Drop, Rule}
use Rattle.delay_model.specs.Overrides.{connection_cmp}
use Rattle.delay_model.specs.declared.state.Edge.{Edge}
use Rattle.delay_model.specs.declared.state.EdgeKind.{EdgeKind}
use Rattle.delay_model.specs.declared.messages.Refusal.{Refusal}
use Rattle.delay_model.specs.Events.{events, live_events, calls_of, arrival_of, departure_of}
use Rattle.delay_model.specs.Refusals.{refusal}
use Rattle.delay_model.specs.Timing.{event_time}
use Rattle.delay_model.specs.Touched.{changed_count}
use Rattle.delay_model.specs.Effect.{effect}
use Rattle.delay_model.specs.After.{after_messages, AreAccepted, Reading}
use Rattle.delay_model.specs.Windows.{Answer}

-- a time of day in seconds
abbrev pub clock : ℕ → ℕ → ℕ → ℕ
clock hours minutes seconds = 3600 * hours + 60 * minutes + seconds

-- trains run no faster than scheduled, stand for a minute at least, and a change takes 3 minutes
abbrev pub opts : Opts
opts = record {
  slack = 0;
  stop = 60;
  change = 180;
  window = 1800;
  spare_trains = 200;
  spare_calls = 4000;
  overrides = 10000;
}

-- trains catch up 7 of 100 seconds of running time
abbrev pub with_slack : Opts
with_slack = record opts { slack = 7 }

-- a row of stops.txt: its id (one letter), the kind of place and parent_station
abbrev pub place : ℕ → PlaceKind → Option ℕ → StopRow
place id kind parent = record { id = id ∷ []; kind = kind; parent = parent }

abbrev pub stop_a : ℕ
stop_a = 0

abbrev pub station_b : ℕ
station_b = 1

abbrev pub platform_b1 : ℕ
platform_b1 = 2

abbrev pub platform_b2 : ℕ
platform_b2 = 3

abbrev pub stop_c : ℕ
stop_c = 4

abbrev pub stop_d : ℕ
stop_d = 5

-- the stops A, C and D, and the station B with two platforms
abbrev pub stops : List StopRow
stops =
    place 65 Platform None ∷ place 66 Station None ∷ place 67 Platform (Some station_b)
    ∷ place 68 Platform (Some station_b)
    ∷ place 69 Platform None ∷ place 70 Platform None ∷ []

-- trains of the second route wait so long for trains of the first, at any stop
abbrev pub waits_for : ℕ → RuleRow
waits_for seconds = record { feeder = Some 0; connecting = Some 1; stop = None; max_wait = seconds }

-- every train waits so long for every other
abbrev pub for_any : ℕ → RuleRow
for_any seconds = record { feeder = None; connecting = None; stop = None; max_wait = seconds }

abbrev pub network_by : Opts → List TransferRow → List RuleRow → Network
network_by o transfers rules = record {
  stops = stops;
  transfers = transfers;
  rules = rules;
  opts = o;
}

abbrev pub network : Opts → Network
network o = network_by o [] (waits_for 300 ∷ [])

abbrev pub at : ℕ → Bool → EventValues
at time live = record { scheduled = time; live = live; forecast = None; report = None }

abbrev pub call : ℕ → ℕ → EventValues → EventValues → Call
call label stop arrival departure =
    record {
      label = label;
      stop = stop;
      arrival = arrival;
      departure = departure;
      board = true;
      alight = true;
    }

-- the first train's call at B, and the second's
abbrev pub t1_at_b : Call
t1_at_b = call 1 platform_b1 (at (clock 8 30 0) true) (at (clock 8 32 0) true)

abbrev pub t2_at_b : Call
t2_at_b = call 0 platform_b2 (at (clock 8 36 0) false) (at (clock 8 36 0) true)

abbrev pub t1 : Train
t1 =
    record {
      day = 0;
      route = 0;
      next_label = 3;
      calls =
          call 0 stop_a (at (clock 8 0 0) false) (at (clock 8 0 0) true)
          ∷ t1_at_b
          ∷ call 2 stop_c (at (clock 9 0 0) true) (at (clock 9 0 0) false)
          ∷ [];
    }

abbrev pub t2 : Train
t2 =
    record {
      day = 0;
      route = 1;
      next_label = 2;
      calls =
          t2_at_b
          ∷ call 1 stop_d (at (clock 9 10 0) true) (at (clock 9 10 0) false)
          ∷ [];
    }

-- the schedule's state
abbrev pub start : Opts → State
start o =
    record {
      trains = t1 ∷ t2 ∷ [];
      overrides = empty {R = connection_cmp};
      spare_trains = o.spare_trains;
      spare_calls = o.spare_calls;
      spare_overrides = o.overrides;
    }

-- the times of all live events, in the order of the trains and of their events
unfoldable pub times : Network → State → List ℕ
times nw st = map (λ (v : Event). event_time nw st v.key) (live_events (events st))

-- for each message the number of events that it changes in the state after those before it
abbrev pub changed_counts : Network → State → List Message → List ℕ
changed_counts nw st [] = []
changed_counts nw st (m ∷ ms) = changed_count nw st m ∷ changed_counts nw (effect st m) ms

-- what becomes of the schedule's state after messages: the times,
abbrev pub times_after : Opts → List Message → List ℕ
times_after o ms = times (network o) (after_messages (start o) ms)

-- for each message the number of events that it changes,
abbrev pub counts_of : Opts → List Message → List ℕ
counts_of o ms = changed_counts (network o) (start o) ms

-- that each is accepted,
abbrev pub Accepts : Opts → List Message → Type 0
Accepts o ms = AreAccepted (network o) (start o) ms

-- and the answer to one more message
abbrev pub answer : Opts → List Message → Message → Option Refusal
answer o ms m = refusal (network o) (after_messages (start o) ms) m

-- the labels of a train's calls
abbrev pub labels : State → ℕ → List ℕ
labels st train = map (λ (x : Call). x.label) (calls_of st train)

-- the arrival of the first train at B, and the departure of the second
abbrev pub feeder : Event
feeder = arrival_of 0 0 t1_at_b

abbrev pub fed : Event
fed = departure_of 1 1 t2_at_b

abbrev pub edge_between : Event → Event → ℕ → EdgeKind → Edge
edge_between u v weight kind = record { from = u.key; to = v.key; weight = weight; kind = kind }

-- an edge from the one to the other
abbrev pub edge_at_b : ℕ → EdgeKind → Edge
edge_at_b weight kind = edge_between feeder fed weight kind

-- a call on the first train's platform ten minutes later
abbrev pub later_at_b : Call
later_at_b = call 3 platform_b1 (at (clock 8 40 0) true) (at (clock 8 42 0) true)

-- a row of transfers.txt
abbrev pub row : ℕ → ℕ → ℕ → Option ℕ → TransferRow
row from to kind seconds = record { from_stop = from; to_stop = to; kind = kind; seconds = seconds }

abbrev pub arrival : ℕ → ℕ → Node
arrival train label = record { train = train; label = label; dep = false }

abbrev pub departure : ℕ → ℕ → Node
departure train label = record { train = train; label = label; dep = true }

-- the train 0 is expected at B1 at this time
abbrev pub at_b1 : ℕ → Message
at_b1 time = Forecast (arrival 0 1) time

-- the train 0 left A at this time
abbrev pub left_a : ℕ → Message
left_a time = Report (departure 0 0) time

-- that report is corrected to this time
abbrev pub corrected_a : ℕ → Message
corrected_a time = Correct (departure 0 0) (Some time)

-- the report of an event is taken back
abbrev pub take_back : Node → Message
take_back n = Correct n None

-- the train 0 left A at 08:05, came to B at 08:36 and left it at 08:40
abbrev pub reported_at_b : List Message
reported_at_b = left_a (clock 8 5 0) ∷ Report (arrival 0 1) (clock 8 36 0)
    ∷ Report (departure 0 1) (clock 8 40 0) ∷ []

-- the connection at B is kept, dropped, or left to the rules
abbrev pub keep_at_b : Message
keep_at_b = Keep (arrival 0 1) (departure 1 0)

abbrev pub drop_at_b : Message
drop_at_b = Drop (arrival 0 1) (departure 1 0)

abbrev pub rule_at_b : Message
rule_at_b = Rule (arrival 0 1) (departure 1 0)

abbrev pub new : ℕ → ℕ → ℕ → NewCall
new stop arr dep = record { stop = stop; arr = arr; dep = dep }

-- the train 0 runs to C over D, where it is at these times, and not over B
abbrev pub by_d : ℕ → ℕ → Message
by_d arr dep = Reroute 0 0 2 (new stop_d arr dep ∷ [])

-- so that it is at D from 08:40 to 08:41
abbrev pub over_d : Message
over_d = by_d (clock 8 40 0) (clock 8 41 0)

-- the train 0 calls at D on its way to B
abbrev pub and_d : Message
and_d = Reroute 0 0 1 (new stop_d (clock 8 10 0) (clock 8 11 0) ∷ [])

-- one more train, from D to A
abbrev pub extra : ℕ → Message
extra number = Extra number 0 0 (new stop_d (clock 9 20 0) (clock 9 20 0)
    ∷ new stop_a (clock 10 0 0) (clock 10 0 0) ∷ [])

-- a wish to travel from a place to another, from eight o'clock on
abbrev pub at_eight : ℕ → ℕ → Query
at_eight from to = record { from_stop = from; to_stop = to; time = clock 8 0 0 }

-- a ride on a train from a call, at a stop and a time, to another
abbrev pub ride : ℕ → ℕ → ℕ → ℕ → ℕ → ℕ → ℕ → PlanRide
ride train board board_stop board_time alight alight_stop alight_time =
    record {
      train = train;
      board = board;
      board_stop = board_stop;
      board_time = board_time;
      alight = alight;
      alight_stop = alight_stop;
      alight_time = alight_time;
    }

-- a client's query that was answered after so many accepted messages
abbrev pub answered : ℕ → ℕ → Answer ℕ
answered client count = record { client = client; count = count }

-- the second train where passengers may board at B and alight at D, or not, and a state in which no
-- other runs
abbrev pub t2_by : Bool → Bool → Train
t2_by board alight =
    record t2 {
      calls =
          record t2_at_b { board = board }
          ∷ record (call 1 stop_d (at (clock 9 10 0) true) (at (clock 9 10 0) false))
          { alight = alight }
          ∷ [];
    }

abbrev pub alone : Train → State
alone t = record (start opts) { trains = t ∷ [] }

-- the timetable where the first train runs on to D and not to C, and comes there in the second in
-- which the other does
abbrev pub both_to_d : State
both_to_d =
    let to_d = call 0 stop_a (at (clock 8 0 0) false) (at (clock 8 0 0) true) ∷ t1_at_b
    ∷ call 2 stop_d (at (clock 9 10 0) true) (at (clock 9 10 0) false) ∷ [] in
    record (start opts) { trains = record t1 { calls = to_d } ∷ t2 ∷ [] }

-- the train 0 calls at D on its way to B, does not run from D to B, and leaves A 33 minutes late
abbrev pub late_before_a_gap : List Message
late_before_a_gap = and_d ∷ Cancel 0 3 1 ∷ Forecast (departure 0 0) (clock 8 33 0) ∷ []

-- a train of four calls, from this time on: it runs for ten minutes and stands for one at a time
abbrev pub regular : ℕ → Train
regular s =
    record {
      day = 0;
      route = 0;
      next_label = 4;
      calls =
          call 0 stop_a (at s false) (at (s + 60) true)
          ∷ call 1 platform_b1 (at (s + 660) true) (at (s + 720) true)
          ∷ call 2 stop_c (at (s + 1320) true) (at (s + 1380) true)
          ∷ call 3 stop_d (at (s + 1980) true) (at (s + 2040) false)
          ∷ [];
    }

-- lines that are messages by number, which no names decide
abbrev pub by_number : Reading Message ℕ
by_number = record { message = λ names m. Ok m; known = λ names m. names }

-- extra trains of the first route that are read with the next number, where so many are taken
abbrev pub next_extra : Reading (List NewCall) ℕ
next_extra = record {
  message = λ taken calls. Ok (Extra taken 0 0 calls);
  known = λ taken calls.
      taken + 1;
}
