use Rattle.delay_report.proofs.table.times_rows.Given as goal

abbrev pub ghosts-push_train : goal.ghosts-push_train
ghosts-push_train a = record { name = a.blank.name; parts = a.blank.parts }
