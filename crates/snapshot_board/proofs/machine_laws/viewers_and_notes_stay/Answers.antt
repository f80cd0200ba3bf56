use Rattle.snapshot_board.proofs.StepLemmas.{opens, tells, others-stay, notes-stay}
use Rattle.snapshot_board.proofs.machine_laws.viewers_and_notes_stay.Goals as goal

pub returns-clause-opening : goal.returns-clause-opening
returns-clause-opening g c v lt = opens c.args.viewers v lt

pub returns-clause-note : goal.returns-clause-note
returns-clause-note g c = tells c.args.machine.now

pub returns-clause-viewers : goal.returns-clause-viewers
returns-clause-viewers g c e v known has others =
    others-stay c.args.machine.now e v known has others

pub returns-clause-notes : goal.returns-clause-notes
returns-clause-notes g c e note told has = notes-stay c.args.machine.now e note told has
