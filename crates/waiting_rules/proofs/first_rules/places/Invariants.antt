use Rattle.waiting_rules.proofs.Words.{◌≤◌, length, take, HasPlaces}
use Rattle.waiting_rules.proofs.first_rules.places.Given as goal

-- the places are those of the rules so far, at most one for each
abbrev pub invariant-loop-place : goal.invariant-loop-place
invariant-loop-place l = record {
  places : HasPlaces (take l.place l.rules) l.places.entries;
  few : length l.places.entries ≤ l.place;
}
