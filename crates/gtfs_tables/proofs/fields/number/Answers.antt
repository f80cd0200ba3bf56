use Rattle.gtfs_tables.proofs.Words.{arith, common_steps, digits_after}
use Rattle.gtfs_tables.proofs.FieldLemmas.{tens_small, one_more}
use Rattle.gtfs_tables.proofs.fields.number.Goals as goal

pub overflow_mul-value : goal.overflow_mul-value
overflow_mul-value c = let small = tens_small c.loop-byte.byte-index (omega arith) in omega arith

pub overflow_add-value : goal.overflow_add-value
overflow_add-value c = let small = tens_small c.loop-byte.byte-index (omega arith) in omega (arith, c.in_ok-value.ensures.small)

pub loop-byte-preserved : goal.loop-byte-preserved
unfolding digits_after
loop-byte-preserved c = let small = one_more c.loop-byte.byte-index c.loop-byte.value in grind (arith, common_steps, small)
