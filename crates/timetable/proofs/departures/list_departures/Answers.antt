use Rattle.timetable.proofs.Words.{◌∙◌, arith, rules, Departure}
use Rattle.std.proofs.lemmas.List.Sorted.{answers_always}
use Rattle.timetable.proofs.Departing.{keys-rise, listed-all, listed-one, listed-pass, none-listed}
use Rattle.timetable.proofs.departures.list_departures.Goals as goal

pub loop-k-init : goal.loop-k-init
loop-k-init g c =
    rw c.new-list.ensures.items (none-listed c.args.graph.now.network c.args.graph.now.state c.args.times.now c.requires.trains c.requires.held c.into_iter-k-iterator.result (c.into_iter-k-iterator.ensures.into_iter_gives ∙ rw c.trains.ensures.trains at c.live_keys-k-items.ensures))

pub departing_at-requires : goal.departing_at-requires
departing_at-requires g c = let part = rw c.in-Some.ensures.steps at c.loop-k.invariant in part.there 0 c.in-Some.k (omega arith)

pub loop-k-preserved-in-Continue-1 : goal.loop-k-preserved-in-Continue-1
loop-k-preserved-in-Continue-1 g c =
    listed-one (rw c.in-Some.ensures.steps at c.loop-k.invariant) c.if-k.true c.read-time.result (rw c.node.ensures at c.read-time.ensures.time) c.push.new.self.items (rw c.departing_at.ensures at c.in_ok-push.ensures.items)

pub loop-k-preserved : goal.loop-k-preserved
loop-k-preserved g c = listed-pass (rw c.in-Some.ensures.steps at c.loop-k.invariant) c.if-k.false

pub returns : goal.returns
returns g c =
    let moved = rw (listed-all (rw c.in-None.ensures.steps.0 at c.loop-k.invariant)) at c.sort_unstable_by_key.ensures.permutation in
    let sorted = c.sort_unstable_by_key.ensures.sorted (λ (d : Departure). d.key) (answers_always _ _ _ (λ f a r q k. search rules)) in
    record { moved = moved; ascends = keys-rise c.args.graph.now.network c.args.graph.now.state c.args.times.now c.sort_unstable_by_key.new.self.items c.requires.trains moved sorted }
