use Rattle.edge_rules.proofs.Words.{◌≡◌, ◌+◌, drop, AreNew, new_entries, with_entries}
use Rattle.edge_rules.proofs.indexing.insert_calls.Given as goal

-- those that are left can be put in, and then all are
abbrev pub invariant-loop-call : goal.invariant-loop-call
invariant-loop-call l =
    let left = new_entries l.t l.label (drop l.call-index l.calls) in
    (l.label ≡ l.first + l.call-index) × AreNew left l.index × (with_entries left l.index ≡ with_entries (new_entries l.t l.first l.calls) l.fn.index)
