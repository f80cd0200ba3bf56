use Rattle.propagate.proofs.Words.{◌≡◌, ◌≢◌, ℕ, true, not, nat_eq, refl, sym, ◌∙◌, not-false, eqb-true, eq-eqb, events, key_order}
use Rattle.propagate.proofs.Sorted.{keys-ordered}
use Rattle.propagate.proofs.Walk.{part-first, part-live, part-has, part-held, part-fits, part-room, part-ends, part-marked, part-limit, part-differs, part-same, part-smaller, part-differs-smaller, part-tells, part-weights, end-times, end-marks, end-listed, end-cost}
use Rattle.propagate.proofs.settling.settle.Goals as goal

pub loop-key-init : goal.loop-key-init
loop-key-init g c =
    part-first c.args.graph.now (key_order (events c.args.graph.now.state)) c.args.times.now c.args.marks.now c.new-table.result c.args.changed.now c.args.steps.now (keys-ordered c.args.graph.now.state c.requires.valid.trains)
    c.requires.held c.requires.marked c.requires.settled c.requires.room c.new-table.ensures

pub live_event-at-requires : goal.live_event-at-requires
live_event-at-requires g c =
    part-live c.requires.valid (keys-ordered c.args.graph.now.state c.requires.valid.trains) c.loop-key.invariant c.take_least.ensures.room c.in-Some.ensures.taken c.in-Some.ensures.least c.node-n.ensures

pub settle_one-was-requires : goal.settle_one-was-requires
settle_one-was-requires g c =
    let order = keys-ordered c.args.graph.now.state c.requires.valid.trains in
    record {
      there = c.live_event-at.ensures.there;
      asked = part-tells c.requires.valid order c.loop-key.invariant c.take_least.ensures.room c.in-Some.ensures.taken c.in-Some.ensures.least (c.live_event-at.ensures.named ∙ c.node-n.ensures) c.requires.settled c.live_event-at.result c.live_event-at.ensures.there refl c.take-asked.result c.take-asked.ensures.taken;
      has = part-has c.requires.valid order c.loop-key.invariant c.take_least.ensures.room c.in-Some.ensures.taken c.in-Some.ensures.least (c.live_event-at.ensures.named ∙ c.node-n.ensures);
      held = part-held c.requires.valid order c.loop-key.invariant c.take_least.ensures.room c.in-Some.ensures.taken c.in-Some.ensures.least (c.live_event-at.ensures.named ∙ c.node-n.ensures);
      fits = part-fits c.requires.valid order c.loop-key.invariant c.take_least.ensures.room c.in-Some.ensures.taken c.in-Some.ensures.least (c.live_event-at.ensures.named ∙ c.node-n.ensures);
    }

pub push_reserved-requires : goal.push_reserved-requires
push_reserved-requires g c = let order = keys-ordered c.args.graph.now.state c.requires.valid.trains in part-room c.requires.valid order c.loop-key.invariant c.take_least.ensures.room c.in-Some.ensures.taken c.in-Some.ensures.least (c.live_event-at.ensures.named ∙ c.node-n.ensures)

pub ask_dependents-requires : goal.ask_dependents-requires
ask_dependents-requires g c =
    let order = keys-ordered c.args.graph.now.state c.requires.valid.trains in
    record {
      there = c.live_event-at.ensures.there;
      ends = part-ends c.requires.valid order c.loop-key.invariant c.take_least.ensures.room c.in-Some.ensures.taken c.in-Some.ensures.least (c.live_event-at.ensures.named ∙ c.node-n.ensures);
      weights = part-weights c.requires.valid order c.loop-key.invariant c.take_least.ensures.room c.in-Some.ensures.taken c.in-Some.ensures.least (c.live_event-at.ensures.named ∙ c.node-n.ensures);
      marked = part-marked c.requires.valid order c.loop-key.invariant c.take_least.ensures.room c.in-Some.ensures.taken c.in-Some.ensures.least (c.live_event-at.ensures.named ∙ c.node-n.ensures);
      room = part-limit c.requires.valid order c.loop-key.invariant c.take_least.ensures.room c.in-Some.ensures.taken c.in-Some.ensures.least (c.live_event-at.ensures.named ∙ c.node-n.ensures) c.requires.marks_room;
    }

differ : (x y : ℕ) → not (nat_eq x y) ≡ true → x ≢ y
differ x y h e = let same = eq-eqb x y e in absurd (cc)

pub loop-key-preserved-then-ne : goal.loop-key-preserved-then-ne
loop-key-preserved-then-ne g c =
    let order = keys-ordered c.args.graph.now.state c.requires.valid.trains in
    let one = c.settle_one-was in
    let e = one.ensures in
    part-differs c.requires.valid order c.loop-key.invariant c.take_least.ensures.room c.in-Some.ensures.taken c.in-Some.ensures.least (c.live_event-at.ensures.named ∙ c.node-n.ensures) one.result.0 one.result.1 e.before one.new.times e.rule e.after e.others e.has_times one.new.steps e.cost
    (differ _ _ (sym c.ne.ensures ∙ c.if-ne.true)) c.ask_dependents.new.marks c.ask_dependents.ensures.room c.ask_dependents.ensures.marked c.push_reserved.new.self c.push_reserved.ensures.items c.push_reserved.ensures.len c.push_reserved.ensures.capacity
    c.take-asked.new.self c.take-asked.ensures.gone c.take-asked.ensures.others c.ask_dependents.new.asked c.ask_dependents.ensures.asked

pub loop-key-preserved : goal.loop-key-preserved
loop-key-preserved g c =
    let order = keys-ordered c.args.graph.now.state c.requires.valid.trains in
    let one = c.settle_one-was in
    let e = one.ensures in
    part-same c.requires.valid order c.loop-key.invariant c.take_least.ensures.room c.in-Some.ensures.taken c.in-Some.ensures.least (c.live_event-at.ensures.named ∙ c.node-n.ensures) one.result.0 one.result.1 e.before one.new.times e.rule e.after e.others e.has_times one.new.steps e.cost (eqb-true _ _ (not-false _ (sym c.ne.ensures ∙ c.if-ne.false)))
    c.take-asked.new.self c.take-asked.ensures.gone c.take-asked.ensures.others

pub loop-key-smaller-then-ne : goal.loop-key-smaller-then-ne
loop-key-smaller-then-ne g c =
    let order = keys-ordered c.args.graph.now.state c.requires.valid.trains in
    let one = c.settle_one-was in
    let e = one.ensures in
    part-differs-smaller c.requires.valid order c.loop-key.invariant c.take_least.ensures.room c.in-Some.ensures.taken c.in-Some.ensures.least (c.live_event-at.ensures.named ∙ c.node-n.ensures) one.result.0 one.result.1 e.before one.new.times e.rule e.after e.others e.has_times one.new.steps e.cost c.ask_dependents.new.marks c.ask_dependents.ensures.marked

pub loop-key-smaller : goal.loop-key-smaller
loop-key-smaller g c = let order = keys-ordered c.args.graph.now.state c.requires.valid.trains in part-smaller c.requires.valid order c.loop-key.invariant c.take_least.ensures.room c.in-Some.ensures.taken c.in-Some.ensures.least (c.live_event-at.ensures.named ∙ c.node-n.ensures)

pub returns-clause-times : goal.returns-clause-times
returns-clause-times g c = end-times c.requires.valid (keys-ordered c.args.graph.now.state c.requires.valid.trains) c.loop-key.invariant c.in_default.ensures.none

pub returns-clause-marks : goal.returns-clause-marks
returns-clause-marks g c = c.in_default.ensures.same ∙ end-marks c.requires.valid (keys-ordered c.args.graph.now.state c.requires.valid.trains) c.loop-key.invariant c.in_default.ensures.none

pub returns-clause-changed : goal.returns-clause-changed
returns-clause-changed g c = end-listed c.requires.valid (keys-ordered c.args.graph.now.state c.requires.valid.trains) c.loop-key.invariant c.in_default.ensures.none

pub returns-clause-cost : goal.returns-clause-cost
returns-clause-cost g c = end-cost c.requires.valid (keys-ordered c.args.graph.now.state c.requires.valid.trains) c.loop-key.invariant c.in_default.ensures.none
