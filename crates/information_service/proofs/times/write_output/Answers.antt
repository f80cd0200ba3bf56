use Rattle.std.proofs.lemmas.Result.{IfErr-weaker, on_ok_weaker}
use Rattle.information_service.proofs.Ends.{where_also}
use Rattle.information_service.proofs.Fronts.{all_as, taken_as}
use Rattle.information_service.proofs.TimesReplies.{beginning-replies, whole-output}
use Rattle.information_service.proofs.times.write_output.Goals as goal

pub returns-clause-ok : goal.returns-clause-ok
returns-clause-ok g c = on_ok_weaker c.answer_input.result (λ all. λ bytes told. all_as (whole-output c.args.service.now c.requires.count _ _) (all bytes told)) c.answer_input.ensures.ok

pub returns-clause-stopped : goal.returns-clause-stopped
returns-clause-stopped g c =
    IfErr-weaker c.answer_input.result _ _ (λ f h. where_also _ _ f (λ had. (had.0, had.1, all_as (beginning-replies c.args.service.now c.requires.count _ _) had.2)) h) c.answer_input.ensures.stopped

pub returns-clause-front : goal.returns-clause-front
returns-clause-front g c = taken_as (whole-output c.args.service.now c.requires.count _) (beginning-replies c.args.service.now c.requires.count _) c.answer_input.ensures.front
