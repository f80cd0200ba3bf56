use Rattle.window_service.proofs.Words.{true, sym}
use Rattle.information_service.proofs.Ends.{all_taken}
use Rattle.mt_io.specs.Lines.{lines_of}
use Rattle.window_service.proofs.SumLemmas.{all-summed}
use Rattle.window_service.proofs.summing.sum_windows.Goals as goal

pub returns-clause-ok : goal.returns-clause-ok
returns-clause-ok g c =
    let whole = rw c.none-sums.ensures at c.in_ok-receive_windows.ensures.all in
    λ bytes told. rw (sym (all_taken _ _ bytes whole.bytes whole.took whole.ended.left told)) (all-summed _ _ _ (lines_of true whole.bytes) _ whole.all)
