use Rattle.timetable.proofs.replay.TimetableReplay.follow.Given as goal

-- a ledger that nothing else counts in
abbrev pub ghosts-follow : goal.ghosts-follow
ghosts-follow a = record { name = a.blank.name; parts = a.blank.parts }
