use Rattle.std.proofs.Common.{◌∙◌, Option, Some, ap}
use Rattle.std.specs.Option.{option_and_then, option_map}
use Rattle.mt_base.specs.declared.journeys.PlanRide.{PlanRide}
use Rattle.journey_cert.specs.Calls.{arrival_by, calls_after, ride_to}
use Rattle.journey_cert.specs.declared.ride.Boarding.{Boarding}
use Rattle.journey_cert.proofs.RideLemmas.{between-named}
use Rattle.journey_cert.proofs.ride.find_ride.Goals as goal

pub returns-in_err-boarding : goal.returns-in_err-boarding
returns-in_err-boarding g c =
    let nw = c.args.t.now.network in
    let st = c.args.t.now.state in
    let n = c.args.name.now in
    let onward : Option Boarding → Option PlanRide = option_and_then (λ (b : Boarding). option_map (ride_to b) (arrival_by nw st n.train n.alight (calls_after st n.train n.board))) in
    c.from_residual.ensures ∙ ap onward c.in_err-boarding.ensures ∙ between-named nw st c.requires n

pub returns-in_err-arrival : goal.returns-in_err-arrival
returns-in_err-arrival g c =
    let nw = c.args.t.now.network in
    let st = c.args.t.now.state in
    let n = c.args.name.now in
    let onward : Option Boarding → Option PlanRide = option_and_then (λ (b : Boarding). option_map (ride_to b) (arrival_by nw st n.train n.alight (calls_after st n.train n.board))) in
    c.from_residual-in_err-arrival.ensures ∙ ap (option_map (ride_to c.in_ok-boarding.boarding)) c.in_err-arrival.ensures ∙ ap onward c.in_ok-boarding.ensures ∙ between-named nw st c.requires n

pub returns : goal.returns
returns g c =
    let nw = c.args.t.now.network in
    let st = c.args.t.now.state in
    let n = c.args.name.now in
    let onward : Option Boarding → Option PlanRide = option_and_then (λ (b : Boarding). option_map (ride_to b) (arrival_by nw st n.train n.alight (calls_after st n.train n.board))) in
    ap Some c.ride_to.ensures ∙ ap (option_map (ride_to c.in_ok-boarding.boarding)) c.in_ok-arrival.ensures ∙ ap onward c.in_ok-boarding.ensures ∙ between-named nw st c.requires n
