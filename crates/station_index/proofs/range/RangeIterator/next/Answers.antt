use Rattle.station_index.proofs.Words.{arith, drop, length, map, sym, ◌∙◌, ap, length-map, comes_first, loaded_left, entry_of}
use Rattle.station_index.proofs.RangeLemmas.{Waits, comes-nearer, front-from, later-flags, later-ordered, loaded-step, next-ordered, next-step, rest-flags, rest-map, rest-ordered, waits-none, waits-some}
use Rattle.station_index.proofs.range.RangeIterator.next.Goals as goal
use Rattle.station_index.proofs.range.RangeIterator.next.Goals.{in-Some+else-comes_first, in_default}

pub invariant_of-self : goal.invariant_of-self
invariant_of-self c =
    let s = c.self.inside in
    let es = loaded_left s in
    let f = entry_of s.stop s.dep in
    let n = c.dead_at_front-dead.result in
    let facts = c.dead_at_front-dead.ensures in
    let front = front-from s n c.self.invariant facts.within facts.dead facts.live in
    let is = rest-map f n s.loaded.now ∙ ap (map f) c.in-Some.ensures.cases.0 in
    record {
      loaded = later-ordered es s.live.now s.added n front (f c.in-Some.event.now) (map f c.in-Some.later.now) is;
      flags = later-flags es s.live.now s.added n front (f c.in-Some.event.now) (map f c.in-Some.later.now) is ∙ length-map c.in-Some.later.now f;
      added = c.self.invariant.added;
    }

pub returns-then-comes_first-clause-steps : goal.returns-then-comes_first-clause-steps
returns-then-comes_first-clause-steps c =
    let s = c.self.inside in
    let es = loaded_left s in
    let f = entry_of s.stop s.dep in
    let n = c.dead_at_front-dead.result in
    let facts = c.dead_at_front-dead.ensures in
    let front = front-from s n c.self.invariant facts.within facts.dead facts.live in
    let is = rest-map f n s.loaded.now ∙ ap (map f) c.in-Some.ensures.cases.0 in
    let own = c.entry_of-entry.ensures in
    let first = ap (λ e. comes_first e s.added) (sym own) ∙ sym c.comes_first.ensures ∙ c.if-comes_first.true in
    rw own (sym c.self.view_is
    ∙ loaded-step es s.live.now s.added n front (f c.in-Some.event.now) (map f c.in-Some.later.now) is first)

pub returns-then-comes_first-clause-goes : goal.returns-then-comes_first-clause-goes
returns-then-comes_first-clause-goes c =
    let less = ap length (returns-then-comes_first-clause-steps c) in record { on = λ _. (tt, tt, omega arith); keeps = tt; rests = λ _. tt }

pub invariant_of-self-2 : goal.invariant_of-self-2
invariant_of-self-2 c =
    let s = c.self.inside in
    let es = loaded_left s in
    let f = entry_of s.stop s.dep in
    let n = c.dead_at_front-dead.result in
    let facts = c.dead_at_front-dead.ensures in
    let front = front-from s n c.self.invariant facts.within facts.dead facts.live in
    record {
      loaded = rw (← rest-map f n s.loaded.now) (rest-ordered es s.live.now s.added n front);
      flags = rest-flags es s.live.now s.added n front ∙ ap length (rest-map f n s.loaded.now) ∙ length-map _ f;
      added = next-ordered es s.live.now s.added n front c.next.result c.next.new.self c.next.ensures.steps;
    }

pub returns-clause-steps : goal.returns-clause-steps
returns-clause-steps c =
    let s = c.self.inside in
    let es = loaded_left s in
    let f = entry_of s.stop s.dep in
    let n = c.dead_at_front-dead.result in
    let facts = c.dead_at_front-dead.ensures in
    let front = front-from s n c.self.invariant facts.within facts.dead facts.live in
    let waits : Waits (drop n es) s.added = elim c.match-split_first.branch [
      | in-Some+else-comes_first w ↦ waits-some es s.live.now s.added n front (f w.in-Some.event.now) (map f w.in-Some.later.now) (rest-map f n s.loaded.now ∙ ap (map f) w.in-Some.ensures.cases.0) (ap (λ e. comes_first e s.added) (sym w.entry_of-entry.ensures) ∙ sym w.comes_first.ensures ∙ w.if-comes_first.false)
      | in_default w ↦ waits-none es s.live.now s.added n front (ap length (rest-map f n s.loaded.now) ∙ length-map _ f ∙ w.in_default.ensures.cases)
    ] in
    rw (← rest-map f n s.loaded.now, ← c.self.view_is) (next-step es s.live.now s.added n front c.next.result c.next.new.self c.next.ensures.steps waits)

pub returns-clause-goes : goal.returns-clause-goes
returns-clause-goes c = comes-nearer _ _ c.next.result (returns-clause-steps c)
