use Rattle.information_service.proofs.Words.{refl, arith}
use Rattle.information_service.proofs.Taken.{ready-behind, service-behind}
use Rattle.information_service.proofs.answer.reply_to_wire.Goals as goal

pub take_wire-requires-clause-ready : goal.take_wire-requires-clause-ready
take_wire-requires-clause-ready c =
    let count = rw (← c.service.view_is) at c.requires.count in
    record {
      timetable = c.service.inside.timetable;
      count = c.service.inside.timetable.count;
      held = (refl, refl);
      room = omega (arith, count);
      in_step = c.service.invariant.in_step;
    }

pub invariant_of-service : goal.invariant_of-service
invariant_of-service c =
    let still =
    ready-behind c.args.number c.args.wire.now c.service.inside.timetable c.take_wire.new.holder c.service.inside.directory c.take_wire.new.directory
    c.take_wire.result c.take_wire.ensures.taken c.take_wire.ensures.unchanged c.take_wire.ensures.names c.service.invariant.in_step in
    record {
      stops = rw still.network c.service.invariant.stops;
      numbers = rw still.numbers c.service.invariant.numbers;
      in_step = still.in_step;
    }

pub returns-clause-next : goal.returns-clause-next
returns-clause-next c =
    let count = rw (← c.service.view_is) at c.requires.count in
    rw (← c.service.view_is) (service-behind c.args.number c.args.wire.now c.service.inside.timetable
    c.take_wire.new.holder c.service.inside.directory c.take_wire.new.directory c.take_wire.result (omega (arith, count)) c.take_wire.ensures.taken)
