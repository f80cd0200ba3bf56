use Rattle.desk_answers.proofs.questions.FindCausesAskTimetableNodeVecLink.ask.Given as goal

abbrev pub ghosts-chain_of : goal.ghosts-chain_of
ghosts-chain_of a = record { name = a.blank.name; parts = a.blank.parts }
