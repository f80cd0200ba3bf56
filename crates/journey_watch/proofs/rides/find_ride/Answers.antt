use Rattle.std.proofs.Common.{◌≡◌, true, false, Some, None, is_some, sym, ◌∙◌}
use Rattle.std.specs.Option.{option_map}
use Rattle.delay_model.specs.declared.state.Call.{Call}
use Rattle.train_nodes.specs.Calls.{call_named, has_call}
use Rattle.timetable.specs.LiveTimes.{live_time}
use Rattle.standing_laws.specs.Standings.{reached_call}
use Rattle.journey_watch.proofs.RideLemmas.{arrival-there, call-there, calls_behind, has-calls, no-departure, ride-is}
use Rattle.journey_watch.proofs.rides.find_ride.Goals as goal

pub returns-in_err-board_time-clause-ride : goal.returns-in_err-board_time-clause-ride
returns-in_err-board_time-clause-ride g c =
    let nw = c.args.t.now.network in
    let st = c.args.t.now.state in
    let n = c.args.name.now in
    let there : has_call st n.train n.board ≡ true = sym (rw (c.trains-trains.ensures.trains, c.graph.ensures.state) at c.has.ensures) ∙ c.if-not-has.false in
    let runs : is_some (reached_call n.alight (calls_behind st n.train n.board)) ≡ true = sym c.runs_to.ensures ∙ c.if-not-runs_to.false in
    let calls = has-calls nw st c.requires n.train n.board n.alight there runs in
    let dead : live_time nw st (record { train = n.train; label = n.board; dep = true }) ≡ None = sym (rw c.departure.ensures at c.in_err-board_time.ensures.time) in
    c.from_residual.ensures ∙ no-departure nw st c.requires n calls dead

pub returns-in_err-alight_time-clause-ride : goal.returns-in_err-alight_time-clause-ride
returns-in_err-alight_time-clause-ride g c =
    let nw = c.args.t.now.network in
    let st = c.args.t.now.state in
    let n = c.args.name.now in
    let there : has_call st n.train n.board ≡ true = sym (rw (c.trains-trains.ensures.trains, c.graph.ensures.state) at c.has.ensures) ∙ c.if-not-has.false in
    let runs : is_some (reached_call n.alight (calls_behind st n.train n.board)) ≡ true = sym c.runs_to.ensures ∙ c.if-not-runs_to.false in
    let calls = has-calls nw st c.requires n.train n.board n.alight there runs in
    let dead : live_time nw st (record { train = n.train; label = n.alight; dep = false }) ≡ None = sym (rw c.arrival.ensures at c.in_err-alight_time.ensures.time) in
    absurd (arrival-there nw st c.requires n calls dead)

pub stop-requires-2 : goal.stop-requires-2
stop-requires-2 g c =
    let nw = c.args.t.now.network in
    let st = c.args.t.now.state in
    let n = c.args.name.now in
    let there : has_call st n.train n.board ≡ true = sym (rw (c.trains-trains.ensures.trains, c.graph.ensures.state) at c.has.ensures) ∙ c.if-not-has.false in
    let runs : is_some (reached_call n.alight (calls_behind st n.train n.board)) ≡ true = sym c.runs_to.ensures ∙ c.if-not-runs_to.false in
    rw (c.trains-trains.ensures.trains, c.graph.ensures.state) (call-there nw st c.requires n (has-calls nw st c.requires n.train n.board n.alight there runs))

pub returns-clause-ride : goal.returns-clause-ride
returns-clause-ride g c =
    let nw = c.args.t.now.network in
    let st = c.args.t.now.state in
    let n = c.args.name.now in
    let there : has_call st n.train n.board ≡ true = sym (rw (c.trains-trains.ensures.trains, c.graph.ensures.state) at c.has.ensures) ∙ c.if-not-has.false in
    let runs : is_some (reached_call n.alight (calls_behind st n.train n.board)) ≡ true = sym c.runs_to.ensures ∙ c.if-not-runs_to.false in
    let departs : live_time nw st (record { train = n.train; label = n.board; dep = true }) ≡ Some c.in_ok-board_time.board_time = sym (rw c.departure.ensures at c.in_ok-board_time.ensures.time) in
    let arrives : live_time nw st (record { train = n.train; label = n.alight; dep = false }) ≡ Some c.in_ok-alight_time.alight_time =
    sym (rw c.arrival.ensures at c.in_ok-alight_time.ensures.time) in
    let from : option_map (λ (c : Call). c.stop) (call_named st n.train n.board) ≡ Some c.stop.result = rw (c.trains-trains.ensures.trains, c.graph.ensures.state) at c.stop.ensures in
    let to : option_map (λ (c : Call). c.stop) (call_named st n.train n.alight) ≡ Some c.stop-2.result = rw (c.trains-trains.ensures.trains, c.graph.ensures.state) at c.stop-2.ensures in
    ride-is nw st c.requires n
    (has-calls nw st c.requires n.train n.board n.alight there runs) c.stop.result c.in_ok-board_time.board_time c.stop-2.result c.in_ok-alight_time.alight_time departs arrives from to
