use Rattle.timetable.proofs.timetable.Timetable.load.Given as goal

-- a ledger that nothing else counts in
abbrev pub ghosts-settle_all : goal.ghosts-settle_all
ghosts-settle_all a = record { name = a.blank.name; parts = a.blank.parts }
