use Rattle.information_service.proofs.taking.take_message.Goals as goal

pub take_accepted-requires-clause-ready : goal.take_accepted-requires-clause-ready
take_accepted-requires-clause-ready g c = record {
  ready = c.requires.ready;
  accepted = λ t count held. rw (c.timetable.ensures t count held) at c.in-Ok.ensures;
}
