use Rattle.gtfs_tables.proofs.Words.{◌≡◌, length, refl, arith}
use Rattle.gtfs_tables.proofs.KeyedLemmas.{none-there, put, put-last}
use Rattle.gtfs_tables.proofs.keyed_calls.KeyedCalls.insert.Goals as goal

pub invariant_of-self-then-is_empty : goal.invariant_of-self-then-is_empty
invariant_of-self-then-is_empty c =
    let p = put _ _ _ c.args.key c.args.times c.in_ok-move_from.ensures.kept c.in_ok-move_from.ensures.below c.self.invariant in
    let empty : length c.move_from.new.sorted.entries ≡ 0 = grind (arith) in
    rw (c.in_ok-push.ensures.items, put-last _ _ c.args.key c.args.times empty) p.rise

pub returns-then-is_empty-clause-fresh : goal.returns-then-is_empty-clause-fresh
returns-then-is_empty-clause-fresh c =
    let p = put _ _ _ c.args.key c.args.times c.in_ok-move_from.ensures.kept c.in_ok-move_from.ensures.below c.self.invariant in
    let empty : length c.move_from.new.sorted.entries ≡ 0 = grind (arith) in
    rw (← c.self.view_is, ← p.found, none-there _ c.args.key empty) refl

pub returns-then-is_empty-clause-entries : goal.returns-then-is_empty-clause-entries
returns-then-is_empty-clause-entries c =
    let p = put _ _ _ c.args.key c.args.times c.in_ok-move_from.ensures.kept c.in_ok-move_from.ensures.below c.self.invariant in
    let empty : length c.move_from.new.sorted.entries ≡ 0 = grind (arith) in
    rw (← c.self.view_is, c.in_ok-push.ensures.items, put-last _ _ c.args.key c.args.times empty) p.entries

pub invariant_of-self-2 : goal.invariant_of-self-2
invariant_of-self-2 c =
    let p = put _ _ _ c.args.key c.args.times c.in_ok-move_from.ensures.kept c.in_ok-move_from.ensures.below c.self.invariant in
    rw c.in_ok-insert.ensures.entries p.rise

pub returns-clause-fresh : goal.returns-clause-fresh
returns-clause-fresh c =
    let p = put _ _ _ c.args.key c.args.times c.in_ok-move_from.ensures.kept c.in_ok-move_from.ensures.below c.self.invariant in
    grind (arith, p.found, c.is_none.ensures, c.in_ok-insert.ensures.old, c.self.view_is)

pub returns-clause-entries : goal.returns-clause-entries
returns-clause-entries c =
    let p = put _ _ _ c.args.key c.args.times c.in_ok-move_from.ensures.kept c.in_ok-move_from.ensures.below c.self.invariant in
    rw (← c.self.view_is, c.in_ok-insert.ensures.entries) p.entries
