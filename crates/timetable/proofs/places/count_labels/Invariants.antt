use Rattle.timetable.proofs.Words.{◌≡◌, take}
use Rattle.std.specs.Prelude.{sum}
use Rattle.timetable.specs.Settled.{next_labels}
use Rattle.timetable.proofs.places.count_labels.Given as goal

-- the labels of the trains so far are counted
abbrev pub invariant-loop-number : goal.invariant-loop-number
invariant-loop-number l = l.count ≡ sum (take l.number (next_labels l.trains))
