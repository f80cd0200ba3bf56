use Rattle.std.proofs.Common.{◌≡◌, true, sym, ◌∙◌, ap, Some}
use Rattle.train_nodes.specs.Calls.{has_call}
use Rattle.journey_cert.proofs.RideLemmas.{boards-at, boards-none}
use Rattle.journey_cert.proofs.ride.find_boarding.Goals as goal

pub returns-in_err-time : goal.returns-in_err-time
returns-in_err-time g c =
    let there : has_call c.args.t.now.state c.args.train c.args.label ≡ true = sym (rw (c.trains-trains.ensures.trains, c.graph.ensures.state) at c.has.ensures) ∙ c.if-not-has.false in
    c.from_residual.ensures ∙ boards-none c.args.t.now.network c.args.t.now.state c.requires c.args.train c.args.label there (sym (rw c.departure.ensures at c.in_err-time.ensures.time))

pub returns : goal.returns
returns g c =
    let there : has_call c.args.t.now.state c.args.train c.args.label ≡ true = sym (rw (c.trains-trains.ensures.trains, c.graph.ensures.state) at c.has.ensures) ∙ c.if-not-has.false in
    boards-at c.args.t.now.network c.args.t.now.state c.requires c.args.train c.args.label there c.in_ok-time.time c.stop.result (sym (rw c.departure.ensures at c.in_ok-time.ensures.time))
    (rw (c.trains-trains.ensures.trains, c.graph.ensures.state) at c.boards.ensures ∙ ap Some c.if-not-boards.false)
    (rw (c.trains-trains.ensures.trains, c.graph.ensures.state) at c.stop.ensures)
