use Rattle.information_service.proofs.taking.InPlaceTakeMessagesTimetableUnit.take.Given as goal

abbrev pub ghosts-take_in_place : goal.ghosts-take_in_place
ghosts-take_in_place a = record { name = a.blank.name; parts = a.blank.parts }
