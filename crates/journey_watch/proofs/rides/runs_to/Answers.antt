use Rattle.std.proofs.Common.{◌≡◌, true, false, Some, None, nat_eq, sym, ◌∙◌}
use Rattle.std.proofs.lemmas.Bool.{eq-eqb, ne_eqb}
use Rattle.delay_model.specs.Events.{calls_of, is_live}
use Rattle.train_nodes.specs.Calls.{label_after}
use Rattle.journey_watch.proofs.RideLemmas.{by-dead, by-end, by-here, by-later, fewer, is-next, reached-none}
use Rattle.journey_watch.proofs.rides.runs_to.Goals as goal

pub returns-then-not-live : goal.returns-then-not-live
returns-then-not-live c =
    let st = c.args.t.now.state in
    let next : Some c.in-Some.next ≡ label_after (calls_of st c.args.train) c.loop-next.label = rw (c.trains-trains.ensures.trains, c.graph.ensures.state) at c.in-Some.ensures in
    let dead : false ≡ is_live st (record { train = c.args.train; label = c.in-Some.next; dep = false }) =
    sym c.if-not-live.true ∙ rw (c.trains-trains.ensures.trains, c.graph.ensures.state, c.arrival.ensures) at c.live.ensures in
    by-dead c.args.t.now.network st c.requires.valid c.args.train c.loop-next.label c.loop-next.invariant.1 c.args.alight c.in-Some.next next dead ∙ c.loop-next.invariant.0

pub returns-then-get : goal.returns-then-get
returns-then-get c =
    let st = c.args.t.now.state in
    let next : Some c.in-Some.next ≡ label_after (calls_of st c.args.train) c.loop-next.label = rw (c.trains-trains.ensures.trains, c.graph.ensures.state) at c.in-Some.ensures in
    let live : true ≡ is_live st (record { train = c.args.train; label = c.in-Some.next; dep = false }) =
    sym c.if-not-live.false ∙ rw (c.trains-trains.ensures.trains, c.graph.ensures.state, c.arrival.ensures) at c.live.ensures in
    let here : nat_eq c.in-Some.next c.args.alight ≡ true = eq-eqb c.in-Some.next c.args.alight (sym c.get.ensures ∙ c.if-get.true ∙ c.get-in-Some.ensures) in
    by-here c.args.t.now.network st c.requires.valid c.args.train c.loop-next.label c.loop-next.invariant.1 c.args.alight c.in-Some.next next live here ∙ c.loop-next.invariant.0

pub returns-then-not-live-2 : goal.returns-then-not-live-2
returns-then-not-live-2 c =
    let st = c.args.t.now.state in
    let next : Some c.in-Some.next ≡ label_after (calls_of st c.args.train) c.loop-next.label = rw (c.trains-trains.ensures.trains, c.graph.ensures.state) at c.in-Some.ensures in
    let live : true ≡ is_live st (record { train = c.args.train; label = c.in-Some.next; dep = false }) =
    sym c.if-not-live.false ∙ rw (c.trains-trains.ensures.trains, c.graph.ensures.state, c.arrival.ensures) at c.live.ensures in
    let apart : nat_eq c.in-Some.next c.args.alight ≡ false = ne_eqb c.in-Some.next c.args.alight (λ same. c.if-get.false (c.get.ensures ∙ same ∙ sym c.get-in-Some.ensures)) in
    let ends : false ≡ is_live st (record { train = c.args.train; label = c.in-Some.next; dep = true }) =
    sym c.if-not-live-2.true ∙ rw (c.trains-trains.ensures.trains, c.graph.ensures.state, c.departure.ensures) at c.live-in-Some.ensures in
    by-end c.args.t.now.network st c.requires.valid c.args.train c.loop-next.label c.loop-next.invariant.1 c.args.alight c.in-Some.next next live apart ends ∙ c.loop-next.invariant.0

pub loop-next-smaller : goal.loop-next-smaller
loop-next-smaller c =
    let st = c.args.t.now.state in
    let next : Some c.in-Some.next ≡ label_after (calls_of st c.args.train) c.loop-next.label = rw (c.trains-trains.ensures.trains, c.graph.ensures.state) at c.in-Some.ensures in
    fewer c.args.t.now.network st c.requires.valid c.args.train c.loop-next.label c.loop-next.invariant.1 c.args.alight c.in-Some.next next

pub loop-next-preserved : goal.loop-next-preserved
loop-next-preserved c =
    let st = c.args.t.now.state in
    let next : Some c.in-Some.next ≡ label_after (calls_of st c.args.train) c.loop-next.label = rw (c.trains-trains.ensures.trains, c.graph.ensures.state) at c.in-Some.ensures in
    let live : true ≡ is_live st (record { train = c.args.train; label = c.in-Some.next; dep = false }) =
    sym c.if-not-live.false ∙ rw (c.trains-trains.ensures.trains, c.graph.ensures.state, c.arrival.ensures) at c.live.ensures in
    let apart : nat_eq c.in-Some.next c.args.alight ≡ false = ne_eqb c.in-Some.next c.args.alight (λ same. c.if-get.false (c.get.ensures ∙ same ∙ sym c.get-in-Some.ensures)) in
    let goes : true ≡ is_live st (record { train = c.args.train; label = c.in-Some.next; dep = true }) =
    sym c.if-not-live-2.false ∙ rw (c.trains-trains.ensures.trains, c.graph.ensures.state, c.departure.ensures) at c.live-in-Some.ensures in (
      by-later c.args.t.now.network st c.requires.valid c.args.train c.loop-next.label c.loop-next.invariant.1 c.args.alight c.in-Some.next next live apart goes ∙ c.loop-next.invariant.0,
      is-next c.args.t.now.network st c.requires.valid c.args.train c.loop-next.label c.loop-next.invariant.1 c.args.alight c.in-Some.next next,
    )

pub returns : goal.returns
returns c =
    let st = c.args.t.now.state in
    let none : None ≡ label_after (calls_of st c.args.train) c.loop-next.label =
    sym c.in_default.is ∙ rw (c.trains-trains.ensures.trains, c.graph.ensures.state) at c.next_call.ensures in
    reached-none c.args.t.now.network st c.args.train c.loop-next.label c.args.alight none ∙ c.loop-next.invariant.0
