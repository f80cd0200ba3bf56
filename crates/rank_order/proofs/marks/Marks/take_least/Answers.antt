use Rattle.std.proofs.Common.{◌≡◌, ◌∙◌, ◌++◌, ap, arith, ℕ, List, Option, None, Some, IfNone}
use Rattle.mt_base.specs.declared.keys.Key.{Key}
use Rattle.rank_order.specs.InOrder.{in_order}
use Rattle.rank_order.specs.Marked.{Marked}
use Rattle.rank_order.proofs.GatherLemmas.{least-of, left-fits, left-none}
use Rattle.rank_order.proofs.OrderLemmas.{in_order-ascends}
use Rattle.rank_order.proofs.marks.Marks.take_least.Goals as goal

pub invariant_of-self : goal.invariant_of-self
invariant_of-self c =
    let took = c.take_lesser in
    record {
      ascends = took.ensures.ascends;
      spare = c.self.invariant.spare;
      room = omega (arith, c.self.invariant.room, took.ensures.capacity);
      spare_room = c.self.invariant.spare_room;
      fits = left-fits took.result (in_order (c.self.inside.keys.items ++ c.self.inside.late)) took.new.keys.items took.new.late c.self.inside.room took.ensures.no_key took.ensures.no_late took.ensures.taken c.self.invariant.fits;
    }

seen : List Key → ℕ → Marked
seen ks n = record { keys = ks; room = n }

unchanged : (r : Option Key) (ks ls : List Key) (n : ℕ) (m : Marked) → IfNone r (ks ≡ ls) → seen ls n ≡ m → IfNone r (seen ks n ≡ m)
unchanged None ks ls n m h e = ap (λ ks. seen ks n) h ∙ e
unchanged (Some k) ks ls n m h e = tt

pub returns-clause-same : goal.returns-clause-same
unfolding seen
returns-clause-same c =
    let took = c.take_lesser in
    let old = in_order (c.self.inside.keys.items ++ c.self.inside.late) in
    unchanged took.result (in_order (took.new.keys.items ++ took.new.late)) old c.self.inside.room c.args.self.now (left-none took.result old took.new.keys.items took.new.late took.ensures.no_key took.ensures.no_late took.ensures.none) c.self.view_is

pub returns-clause-least : goal.returns-clause-least
returns-clause-least c =
    let old = c.self.inside.keys.items ++ c.self.inside.late in
    least-of c.take_lesser.result (in_order old) (in_order (c.take_lesser.new.keys.items ++ c.take_lesser.new.late)) (in_order-ascends old) c.take_lesser.ensures.taken
