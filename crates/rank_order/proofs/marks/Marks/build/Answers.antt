use Rattle.std.proofs.Common.{arith, ◌≤◌, ap, subst, sym, length, List}
use Rattle.mt_base.specs.declared.keys.Key.{Key}
use Rattle.rank_order.specs.Marked.{Ascends, Marked}
use Rattle.rank_order.proofs.GatherLemmas.{none-at-all}
use Rattle.rank_order.proofs.marks.Marks.build.Goals as goal

pub invariant_of-result : goal.invariant_of-result
invariant_of-result c =
    let keys = c.in_ok-with_capacity in
    let none = none-at-all keys.field-0.items c.in_ok-build.field-0 keys.ensures.items c.in_ok-build.ensures in
    record {
      ascends = subst Ascends (sym keys.ensures.items) (λ i j d l m. absurd (omega arith));
      spare = c.in_ok-with_capacity-2.ensures.items;
      room = keys.ensures.capacity;
      spare_room = c.in_ok-with_capacity-2.ensures.capacity;
      fits = subst (λ ks. length ks ≤ c.args.room) (sym none) (omega arith);
    }

pub returns : goal.returns
returns c =
    let seen : List Key → Marked = λ ks. record { keys = ks; room = c.args.room } in
    ap seen (none-at-all c.in_ok-with_capacity.field-0.items c.in_ok-build.field-0 c.in_ok-with_capacity.ensures.items c.in_ok-build.ensures)
