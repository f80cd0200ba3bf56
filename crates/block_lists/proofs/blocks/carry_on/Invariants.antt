use Rattle.block_lists.proofs.Words.{◌*◌, IsMovedOn}
use Rattle.block_lists.proofs.blocks.carry_on.Given as goal

-- what was carried through the blocks so far
abbrev pub invariant-loop-block : goal.invariant-loop-block
invariant-loop-block g l = IsMovedOn l.fn.starts l.fn.stored l.starts l.stored (l.first * 256) (l.block * 256) l.fn.item l.carried
