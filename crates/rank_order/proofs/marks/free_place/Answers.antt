use Rattle.std.proofs.Common.{rules, sym, ◌∙◌, arith}
use Rattle.std.proofs.lemmas.List.{get_or_default}
use Rattle.std.proofs.lemmas.List.Sorted.{IsPartitionPoint-from_clause}
use Rattle.mt_base.specs.Order.{is_before}
use Rattle.rank_order.proofs.InsertLemmas.{ascends-parted, none-there}
use Rattle.rank_order.proofs.marks.free_place.Goals as goal

pub returns-then-place-len-clause-place : goal.returns-then-place-len-clause-place
returns-then-place-len-clause-place c =
    IsPartitionPoint-from_clause (λ q. is_before q c.args.k.now) c.args.keys.now.items c.partition_point-place.result c.partition_point-place.ensures.partitioned (ascends-parted c.args.k.now c.args.keys.now.items c.requires.ascends) (λ a r f h. search rules)

pub returns-then-place-len-clause-none : goal.returns-then-place-len-clause-none
returns-then-place-len-clause-none c =
    none-there c.args.k.now c.args.keys.now.items c.partition_point-place.result c.requires.ascends (returns-then-place-len-clause-place c) (λ l d. let ok = c.args.keys.now.ok in absurd (omega (arith, c.if-place-len.true, c.len.ensures)))

pub returns-clause-place : goal.returns-clause-place
returns-clause-place c =
    IsPartitionPoint-from_clause (λ q. is_before q c.args.k.now) c.args.keys.now.items c.partition_point-place.result c.partition_point-place.ensures.partitioned (ascends-parted c.args.k.now c.args.keys.now.items c.requires.ascends) (λ a r f h. search rules)

pub returns-clause-none : goal.returns-clause-none
returns-clause-none c =
    none-there c.args.k.now c.args.keys.now.items c.partition_point-place.result c.requires.ascends (returns-clause-place c)
    (λ l d. rw (get_or_default c.args.keys.now.items c.partition_point-place.result d c.index.result.now l) (rw c.index.ensures at (sym c.is_same.ensures ∙ c.if-is_same.false)))
