use Rattle.waiting_rules.proofs.Words.{◌≡◌, ◌<◌, ℕ, false, ◌||◌, drop, length, slice_index_or, list_any, names_stop}
use Rattle.waiting_rules.proofs.waiting.mark_named.Given as goal

-- with what the rest of the rules name, the marks are those of all
abbrev pub invariant-loop-rule : goal.invariant-loop-rule
invariant-loop-rule l = record {
  count : length l.named.items ≡ length l.fn.named.items;
  each : (stop : ℕ) → stop < length l.fn.named.items
      → (slice_index_or l.named.items stop false || list_any (names_stop stop) (drop l.rule-index l.rules)) ≡ (slice_index_or l.fn.named.items stop false || list_any (names_stop stop) l.rules);
}
