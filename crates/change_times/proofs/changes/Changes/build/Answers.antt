use Rattle.change_times.proofs.Words.{◌∙◌, arith}
use Rattle.std.proofs.lemmas.Result.{err_from_is_err_and}
use Rattle.change_times.proofs.CountLemmas.{onward-is}
use Rattle.change_times.proofs.SameLemmas.{pairs-same}
use Rattle.change_times.proofs.changes.Changes.build.Goals as goal

pub returns-in_err-onward-clause-many : goal.returns-in_err-onward-clause-many
returns-in_err-onward-clause-many c =
    let p = err_from_is_err_and c.from_residual-in_err-onward.result c.from_residual-in_err-onward.ensures.1 in
    rw (p.1, p.2) (λ e. omega (arith, c.in_err-onward.ensures.many e, pairs-same _ _ c.in_ok-table.ensures))

pub invariant_of-result : goal.invariant_of-result
invariant_of-result c = record {
  onward = λ n. c.in_ok-onward.ensures.onward n ∙ onward-is c.in_ok-table.table n;
  back = λ n. c.in_ok-onward.ensures.back n;
}

pub returns-clause-few : goal.returns-clause-few
returns-clause-few c =
    omega (arith, c.in_ok-onward.ensures.limit, pairs-same _ _ c.in_ok-table.ensures)
