use Rattle.schedule_build.proofs.Words.{◌≡◌, take, train_key}
use Rattle.schedule_build.specs.Buckets.{entries_of}
use Rattle.schedule_build.proofs.train_names.entries.Given as goal

-- the entries of the trains so far
abbrev pub invariant-loop-number : goal.invariant-loop-number
invariant-loop-number l = l.all.items ≡ entries_of train_key 0 (take l.number l.trains)
