use Rattle.checked_answers.proofs.claims.CheckCertificateAskTimetableClaimedAnswerBool.ask.Given as goal

abbrev pub ghosts-is_good : goal.ghosts-is_good
ghosts-is_good a = record { name = a.blank.name; parts = a.blank.parts }
