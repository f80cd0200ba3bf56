use Rattle.information_service.proofs.Words.{refl, sym, ◌∙◌, arith}
use Rattle.information_service.proofs.Behind.{all-done, just-taken, left-behind, nothing-done}
use Rattle.information_service.proofs.following.take_told.Goals as goal

pub take_wire-requires-clause-ready : goal.take_wire-requires-clause-ready
take_wire-requires-clause-ready g c =
    let count = c.requires.count in
    record {
      timetable = c.args.timetable.now;
      count = c.args.timetable.now.count;
      held = (refl, refl);
      room = omega (arith, count);
      in_step = c.requires.in_step;
    }

pub returns-then-not-is_accepted-clause-taken : goal.returns-then-not-is_accepted-clause-taken
returns-then-not-is_accepted-clause-taken g c = c.in_ok-reply.ensures.taken c.args.timetable.now c.args.timetable.now.count (refl, refl)

pub returns-then-not-is_accepted-clause-followed : goal.returns-then-not-is_accepted-clause-followed
returns-then-not-is_accepted-clause-followed g c =
    nothing-done c.args.timetable.now c.take_wire.new.holder c.args.number c.args.wire.now c.args.directory.now c.take_wire.new.directory c.in_ok-reply.reply
    (c.in_ok-reply.ensures.taken c.args.timetable.now c.args.timetable.now.count (refl, refl)) g.F.FollowMessages.follows c.args.kept.now (sym c.if-not-is_accepted.true ∙ c.is_accepted.ensures)

pub returns-then-not-is_accepted-clause-left : goal.returns-then-not-is_accepted-clause-left
returns-then-not-is_accepted-clause-left g c =
    left-behind c.args.number c.args.wire.now c.args.timetable.now c.take_wire.new.holder c.args.directory.now c.take_wire.new.directory c.take_wire.result
    c.take_wire.ensures.taken c.take_wire.ensures.unchanged c.take_wire.ensures.names c.requires.in_step

pub follow-requires : goal.follow-requires
follow-requires g c =
    just-taken c.args.timetable.now c.take_wire.new.holder c.args.number c.args.wire.now c.args.directory.now c.take_wire.new.directory c.in_ok-reply.reply
    (c.in_ok-reply.ensures.taken c.args.timetable.now c.args.timetable.now.count (refl, refl)) (sym c.if-not-is_accepted.false ∙ c.is_accepted.ensures) g.F.FollowMessages.ready c.args.kept.now
    c.state_is_valid.ensures c.in_ok-reply.ensures.formed c.requires.ready

pub returns-in_err-told-clause-left : goal.returns-in_err-told-clause-left
returns-in_err-told-clause-left g c =
    left-behind c.args.number c.args.wire.now c.args.timetable.now c.take_wire.new.holder c.args.directory.now c.take_wire.new.directory c.take_wire.result
    c.take_wire.ensures.taken c.take_wire.ensures.unchanged c.take_wire.ensures.names c.requires.in_step

pub returns-clause-taken : goal.returns-clause-taken
returns-clause-taken g c = c.in_ok-reply.ensures.taken c.args.timetable.now c.args.timetable.now.count (refl, refl)

pub returns-clause-followed : goal.returns-clause-followed
returns-clause-followed g c =
    all-done c.args.timetable.now c.take_wire.new.holder c.args.number c.args.wire.now c.args.directory.now c.take_wire.new.directory c.in_ok-reply.reply
    (c.in_ok-reply.ensures.taken c.args.timetable.now c.args.timetable.now.count (refl, refl)) (sym c.if-not-is_accepted.false ∙ c.is_accepted.ensures) g.F.FollowMessages.follows c.args.kept.now
    c.in_ok-told.told c.follow.new.kept c.in_ok-told.ensures

pub returns-clause-left : goal.returns-clause-left
returns-clause-left g c =
    left-behind c.args.number c.args.wire.now c.args.timetable.now c.take_wire.new.holder c.args.directory.now c.take_wire.new.directory c.take_wire.result
    c.take_wire.ensures.taken c.take_wire.ensures.unchanged c.take_wire.ensures.names c.requires.in_step
