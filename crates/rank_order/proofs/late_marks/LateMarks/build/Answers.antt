use Rattle.rank_order.proofs.HeapLemmas.{none-in}
use Rattle.rank_order.proofs.late_marks.LateMarks.build.Goals as goal

pub returns : goal.returns
returns c = none-in c.in_ok-with_capacity.field-0 c.in_ok-with_capacity.ensures.len
