use Rattle.waiting_rules.proofs.Words.{◌≡◌, ◌<◌, ℕ, true, ◌||◌, length, slice_index_or, flag_at, station_in}
use Rattle.waiting_rules.proofs.waiting.with_stations.Given as goal

-- the flags are those of the locations so far
abbrev pub invariant-loop-at : goal.invariant-loop-at
invariant-loop-at l = record {
  count : length l.flags.items ≡ l.at;
  each : (stop : ℕ) → stop < l.at
      → slice_index_or l.flags.items stop true ≡ (slice_index_or l.named stop true || flag_at l.named (station_in l.parents stop));
}
