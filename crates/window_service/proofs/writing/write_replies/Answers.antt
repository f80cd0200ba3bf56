use Rattle.window_service.proofs.Words.{◌≡◌, ◌∙◌, subst, handed_on, AppendsFront, text_of_replies, each_fault, front_none}
use Rattle.information_service.proofs.Ends.{memory_not_write}
use Rattle.information_service.proofs.Fronts.{front_part}
use Rattle.information_service.specs.declared.fault.LinesFault.TheVariants.{OutOfMemory, WriteFault}
use Rattle.window_service.proofs.writing.write_replies.Goals as goal

pub returns-in_err-text-clause-front : goal.returns-in_err-text-clause-front
returns-in_err-text-clause-front g c =
    handed_on c.from_residual.result OutOfMemory _ c.from_residual.ensures.1 (front_none memory_not_write (g.K.Sink.written c.args.out.now) (text_of_replies c.args.directory.now c.args.replies.now))

pub returns-in_err-put-clause-front : goal.returns-in_err-put-clause-front
returns-in_err-put-clause-front g c =
    let a = g.K.Sink.written c.args.out.now in
    let b = g.K.Sink.written c.put.new.sink in
    each_fault c.from_residual-in_err-put.result _
    (λ f. subst (AppendsFront (f ≡ WriteFault) a b) (c.as_slice.ensures.value ∙ c.in_ok-text.ensures) (front_part a b c.as_slice.result.now c.in_err-put.ensures.failed))
