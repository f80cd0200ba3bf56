use Rattle.timetable.proofs.replay.TimetableReplay.step.Given as goal

-- a ledger that nothing else counts in
abbrev pub ghosts-take : goal.ghosts-take
ghosts-take a = record { name = a.blank.name; parts = a.blank.parts }
