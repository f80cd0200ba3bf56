use Rattle.station_index.proofs.Words.{◌≡◌, map, take, entry_of_number}
use Rattle.station_index.proofs.sorting.numbers_of.Given as goal

-- the numbers so far are of the entries so far
abbrev pub invariant-loop-entry : goal.invariant-loop-entry
invariant-loop-entry l = map entry_of_number l.numbers.items ≡ take l.entry-index l.entries
