use Rattle.block_lists.proofs.Words.{◌≡◌, ℕ, ◌<◌, length, get_or, AreBlocks, AreSame}
use Rattle.block_lists.proofs.blocks.settle_all.Given as goal

-- the blocks so far are in order, and the elements are the same
abbrev pub invariant-loop-block : goal.invariant-loop-block
invariant-loop-block g l =
    record {
      blocks : AreBlocks l.starts (length l.initial.stored);
      same_length : length l.stored ≡ length l.initial.stored;
      same_starts : length l.starts ≡ length l.initial.starts;
      settled : (b : ℕ) → b < l.block → get_or l.starts b 0 ≡ 0;
      same : AreSame l.starts l.stored l.initial.starts l.initial.stored;
    }
