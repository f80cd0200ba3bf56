-- Entries by a number, so that they stand in the order of their numbers.
use Rattle.std.specs.Prelude.{ℕ, ◌/◌, ◌%◌, ◌^◌, nat_eq}
use Rattle.mt_base.specs.declared.index_entries.Entry.{Entry}
use Rattle.station_index.specs.Slots.{entry_of}

-- the entry of a number: from the highest of its 64 bits on, 17 of the stop, one that tells a
-- departure, 20 of the time, 18 of the train, and 8 of the label
abbrev pub entry_of_number : ℕ → Entry
entry_of_number n = entry_of (n / 2 ^ 47) (nat_eq (n / 2 ^ 46 % 2) 1) (record {
  time = n / 2 ^ 26 % 2 ^ 20;
  train = n / 2 ^ 8 % 2 ^ 18;
  label = n % 2 ^ 8;
})
