use Rattle.std.proofs.lemmas.Result.{IfErr-weaker, on_ok_weaker}
use Rattle.information_service.proofs.Ends.{handed_on}
use Rattle.information_service.proofs.Fronts.{front_after, front_longer}
use Rattle.information_service.proofs.Gathering.{both-written}
use Rattle.information_service.proofs.gathered.gather.Goals as goal

pub returns-in_err-write_gathered-clause-front : goal.returns-in_err-write_gathered-clause-front
returns-in_err-write_gathered-clause-front g c =
    handed_on c.from_residual.result c.in_err-write_gathered.field-0.0 _ c.from_residual.ensures.1
    (front_longer (g.K.Sink.written c.args.out.now) (g.K.Sink.written c.write_gathered.new.out) c.args.gathered.now.items c.args.text.now c.in_err-write_gathered.ensures.front)

pub returns-clause-ok : goal.returns-clause-ok
returns-clause-ok g c =
    on_ok_weaker c.write_bytes.result (both-written (g.K.Sink.written c.args.out.now) (g.K.Sink.written c.write_gathered.new.out) (g.K.Sink.written c.write_bytes.new.out)
    c.args.gathered.now.items c.args.text.now c.write_gathered.new.gathered.items c.in_ok-write_gathered.ensures.ok c.in_ok-write_gathered.ensures.empty) c.write_bytes.ensures.ok

pub returns-clause-front : goal.returns-clause-front
returns-clause-front g c =
    IfErr-weaker c.write_bytes.result _ _ (λ f front. front_after (g.K.Sink.written c.args.out.now) (g.K.Sink.written c.write_gathered.new.out) (g.K.Sink.written c.write_bytes.new.out)
    c.args.gathered.now.items c.args.text.now c.in_ok-write_gathered.ensures.ok front) c.write_bytes.ensures.front
