use Rattle.block_lists.proofs.Words.{◌*◌, ◌≤◌, IsMovedBack}
use Rattle.block_lists.proofs.blocks.carry_back.Given as goal

-- what was carried back through the blocks so far
abbrev pub invariant-loop-block : goal.invariant-loop-block
invariant-loop-block g l =
    record {
      order : l.first ≤ l.block;
      within : l.block ≤ l.last;
      moved : IsMovedBack l.fn.starts l.fn.stored l.starts l.stored (l.block * 256) (l.last * 256) l.fn.item l.carried;
    }

abbrev pub decreases-loop-block : goal.decreases-loop-block
decreases-loop-block g l = l.block
