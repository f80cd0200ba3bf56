use Rattle.information_service.proofs.Ends.{each_fault}
use Rattle.information_service.proofs.Fronts.{front_part}
use Rattle.information_service.proofs.writing.write_bytes.Goals as goal

pub returns-in_err-put-clause-front : goal.returns-in_err-put-clause-front
returns-in_err-put-clause-front g c =
    each_fault c.from_residual.result _ (λ f. front_part (g.K.Sink.written c.args.out.now) (g.K.Sink.written c.put.new.sink) c.args.bytes.now c.in_err-put.ensures.failed)
