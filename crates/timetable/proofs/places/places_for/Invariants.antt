use Rattle.timetable.proofs.LabelPlaces.{ArePlacesTo}
use Rattle.timetable.proofs.places.places_for.Given as goal

-- there are places for the trains so far
abbrev pub invariant-loop-number : goal.invariant-loop-number
invariant-loop-number l = ArePlacesTo l.trains l.number l.numbers
