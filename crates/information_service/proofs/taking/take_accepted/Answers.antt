use Rattle.information_service.proofs.Words.{refl}
use Rattle.information_service.proofs.InStep.{can-be-added}
use Rattle.information_service.proofs.taking.take_accepted.Goals as goal

pub add_name-requires : goal.add_name-requires
add_name-requires g c =
    let h = c.requires.ready in
    let t = h.ready.timetable in
    let ready = can-be-added t.network c.args.directory.now t.state c.args.wire.now c.args.message h.ready.in_step c.requires.resolved (h.accepted t h.ready.count h.ready.held) in
    record { ready = rw c.in_ok-name.ensures ready }

pub take-requires : goal.take-requires
take-requires g c =
    let h = c.requires.ready in
    record {
      accepted = record {
        timetable = h.ready.timetable;
        count = h.ready.count;
        held = h.ready.held;
        room = h.ready.room;
        accepted = h.accepted h.ready.timetable h.ready.count h.ready.held;
      };
    }

pub returns-clause-taken : goal.returns-clause-taken
returns-clause-taken g c = λ t count held.
    let accepts = c.requires.ready.accepted t count held in
    record {
      holder = rw (c.requires.resolved, accepts) c.in_ok-changed.ensures.taken;
      known = rw (c.requires.resolved, accepts, c.add_name.ensures, c.in_ok-name.ensures) refl;
      replied = rw (c.requires.resolved, accepts, c.count-accepted.ensures t count held, c.in_ok-changed.ensures.changed t count held) refl;
    }
