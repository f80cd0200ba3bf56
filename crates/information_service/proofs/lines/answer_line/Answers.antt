use Rattle.information_service.proofs.Words.{◌≡◌, ◌++◌, List, ℕ, subst, inr, AppendsFront}
use Rattle.std.proofs.lemmas.Result.{IfErr-weaker}
use Rattle.information_service.specs.declared.fault.LinesFault.TheVariants.{WriteFault}
use Rattle.information_service.proofs.lines.answer_line.Goals as goal

pub returns-clause-front : goal.returns-clause-front
returns-clause-front g c =
    let w0 = g.K.Sink.written c.args.out.now in
    let w1 = g.K.Sink.written c.gather.new.out in
    let before = c.args.gathered.now.items in
    IfErr-weaker c.gather.result _ _ (λ f front. inr (_, _, _, c.in-Ok.ensures.text, subst (λ (bs : List ℕ). AppendsFront (f ≡ WriteFault) w0 w1 (before ++ bs)) c.as_slice.ensures.value front)) c.gather.ensures.front
