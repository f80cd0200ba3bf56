use Rattle.station_index.proofs.Words.{◌≡◌, map, take, entry_of_number}
use Rattle.station_index.proofs.sorting.list_entries.Given as goal

-- the entries so far are of the numbers so far
abbrev pub invariant-loop-number : goal.invariant-loop-number
invariant-loop-number l = l.entries.items ≡ map entry_of_number (take l.number-index l.numbers)
