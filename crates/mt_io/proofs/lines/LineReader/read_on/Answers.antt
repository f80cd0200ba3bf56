use Rattle.std.proofs.Common.{◌≡◌, ◌++◌, ◌∙◌, [], sym, ap, arith, false}
use Rattle.mt_io.proofs.Gives.{gives_held, gives_fill, can_read_on, open_ended, waits_none, work_filled}
use Rattle.mt_io.specs.Reader.{Reader}
use Rattle.mt_io.proofs.lines.LineReader.read_on.Goals as goal

pub returns-then-self-2-clause-leaves : goal.returns-then-self-2-clause-leaves
returns-then-self-2-clause-leaves g c = record {
  ended = sym (ap (λ (r : Reader). r.ended) c.self.view_is) ∙ c.if-self.false;
  none = waits_none c.loop-self.self c.loop-self.invariant.waits;
  taken = sym (ap (λ (r : Reader). r.taken) c.self.view_is) ∙ c.if-self-2.true ∙ ap (λ (r : Reader). r.budget) c.self.view_is;
}

pub returns-in_default-clause-leaves : goal.returns-in_default-clause-leaves
returns-in_default-clause-leaves g c =
    let left = g.S.Source.left in
    let not_yet : c.loop-self.self.ended ≡ false = sym (ap (λ (r : Reader). r.ended) c.self.view_is) ∙ c.if-self.false in
    let taken : c.self.inside.taken ≡ c.loop-self.self.taken = ap (λ (r : Reader). r.taken) c.self.view_is in
    let budget : c.self.inside.budget ≡ c.loop-self.self.budget = ap (λ (r : Reader). r.budget) c.self.view_is in
    can_read_on c.loop-self.self c.fill.new.self (left c.loop-self.source) (left c.fill.new.source) c.in_default.ensures.err c.loop-self.invariant.waits not_yet (omega (arith, taken, budget, c.if-self-2.false, c.self.invariant))

pub returns-in-Some-clause-gives : goal.returns-in-Some-clause-gives
returns-in-Some-clause-gives g c =
    let left = g.S.Source.left in
    let a = c.args.self.now in
    let b = c.fill.new.self in
    let so_far = c.loop-self.invariant.gives in
    let fill = c.in-Ok.ensures.ok in
    let not_yet : c.loop-self.self.ended ≡ false = sym (ap (λ (r : Reader). r.ended) c.self.view_is) ∙ c.if-self.false in
    let taken : c.self.inside.taken ≡ c.loop-self.self.taken = ap (λ (r : Reader). r.taken) c.self.view_is in
    let budget : c.self.inside.budget ≡ c.loop-self.self.budget = ap (λ (r : Reader). r.budget) c.self.view_is in
    let filled = gives_fill a c.loop-self.self b (left c.args.source.now) (left c.loop-self.source) (left c.fill.new.source) so_far.0 fill.0 so_far.1 not_yet (omega (arith, taken, budget, c.if-self-2.false, c.self.invariant)) fill.1 in
    (so_far.0 ++ fill.0, gives_held a b c.take_held.new.self (left c.args.source.now) (left c.fill.new.source) (so_far.0 ++ fill.0) _ filled c.in-Some.ensures.counts (λ rest ended can. c.in-Some.ensures.found.1 rest ended))

pub loop-self-preserved : goal.loop-self-preserved
loop-self-preserved g c =
    let left = g.S.Source.left in
    let a = c.args.self.now in
    let b = c.fill.new.self in
    let so_far = c.loop-self.invariant.gives in
    let fill = c.in-Ok.ensures.ok in
    let held = c.in_default-take_held.ensures in
    let not_yet : c.loop-self.self.ended ≡ false = sym (ap (λ (r : Reader). r.ended) c.self.view_is) ∙ c.if-self.false in
    let taken : c.self.inside.taken ≡ c.loop-self.self.taken = ap (λ (r : Reader). r.taken) c.self.view_is in
    let budget : c.self.inside.budget ≡ c.loop-self.self.budget = ap (λ (r : Reader). r.budget) c.self.view_is in
    let filled = gives_fill a c.loop-self.self b (left c.args.source.now) (left c.loop-self.source) (left c.fill.new.source) so_far.0 fill.0 so_far.1 not_yet (omega (arith, taken, budget, c.if-self-2.false, c.self.invariant)) fill.1 in
    record {
      gives = (so_far.0 ++ fill.0, gives_held a b c.take_held.new.self (left c.args.source.now) (left c.fill.new.source) (so_far.0 ++ fill.0) [] filled held.counts (λ rest ended can. held.none.1 rest ended));
      waits = held.none.0;
      faults = c.in-Ok.ensures.cause.answered ∙ c.loop-self.invariant.faults;
      work = omega (arith, held.work, work_filled c.loop-self.self b (left c.loop-self.source) (left c.fill.new.source) fill.0 fill.1, c.loop-self.invariant.work);
      ended = λ is. open_ended c.loop-self.self.ended not_yet (so_far.1.still_ended is).0;
      spent = λ is. absurd (omega (arith, is, so_far.1.taken, so_far.1.budget, taken, budget, c.if-self-2.false, c.self.invariant));
    }
