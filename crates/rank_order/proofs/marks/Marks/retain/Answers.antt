use Rattle.std.proofs.Common.{◌≡◌, ◌++◌, ap, ◌∙◌, arith, filter, length, subst, sym}
use Rattle.rank_order.specs.InOrder.{in_order}
use Rattle.rank_order.specs.Marked.{Ascends, Marked}
use Rattle.rank_order.proofs.OrderLemmas.{in_order-alone, in_order-ascends}
use Rattle.rank_order.proofs.RetainLemmas.{kept-ascends, retained}
use Rattle.rank_order.proofs.marks.Marks.retain.Goals as goal

pub invariant_of-self : goal.invariant_of-self
invariant_of-self g c =
    let ks = c.gather.new.keys.items in
    let kept = c.retain.new.self.items in
    let left = c.retain.ensures.filtered in
    let up : Ascends ks = subst Ascends (sym c.gather.ensures.keys) (in_order-ascends (c.self.inside.keys.items ++ c.self.inside.late)) in
    let still : Ascends kept = rw left.4 (kept-ascends left.0 ks up) in
    let alone : in_order (kept ++ c.gather.new.late) ≡ kept = subst (λ ls. in_order (kept ++ ls) ≡ kept) (sym c.gather.ensures.late) (in_order-alone kept still) in
    let whole = ap length c.gather.ensures.keys in
    let ok = c.gather.new.keys.ok in
    let new_ok = c.retain.new.self.ok in
    record {
      ascends = still;
      spare = c.gather.ensures.spare;
      room = omega (arith, c.gather.ensures.capacity c.self.inside.room c.self.invariant.room c.self.invariant.spare_room, c.retain.ensures.capacity);
      spare_room = c.gather.ensures.spare_capacity c.self.inside.room c.self.invariant.room c.self.invariant.spare_room;
      fits = rw alone (omega (arith, c.self.invariant.fits, c.retain.ensures.bound, whole));
    }

pub returns-clause-keys : goal.returns-clause-keys
returns-clause-keys g c = λ p by.
    let ks = c.gather.new.keys.items in
    let kept = c.retain.new.self.items in
    let left = c.retain.ensures.filtered in
    let up : Ascends ks = subst Ascends (sym c.gather.ensures.keys) (in_order-ascends (c.self.inside.keys.items ++ c.self.inside.late)) in
    let still : Ascends kept = rw left.4 (kept-ascends left.0 ks up) in
    let alone : in_order (kept ++ c.gather.new.late) ≡ kept = subst (λ ls. in_order (kept ++ ls) ≡ kept) (sym c.gather.ensures.late) (in_order-alone kept still) in
    alone ∙ retained g.F.FnMut p c.args.passes ks kept by left ∙ ap (filter p) (c.gather.ensures.keys ∙ ap (λ (m : Marked). m.keys) c.self.view_is)
