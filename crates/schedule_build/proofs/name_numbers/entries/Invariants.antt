use Rattle.std.proofs.Common.{◌≡◌, take}
use Rattle.schedule_build.specs.Buckets.{entries_of}
use Rattle.schedule_build.specs.Hashed.{name_hash}
use Rattle.schedule_build.proofs.name_numbers.entries.Given as goal

-- the entries of the names so far
abbrev pub invariant-loop-number : goal.invariant-loop-number
invariant-loop-number l = l.all.items ≡ entries_of name_hash 0 (take l.number l.names)
