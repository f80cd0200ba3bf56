use Rattle.std.proofs.Common.{◌≡◌, drop}
use Rattle.std.specs.Prelude.{fold}
use Rattle.schedule_build.specs.Hashed.{hash_step}
use Rattle.schedule_build.proofs.name_hash.name_hash.Given as goal

-- the rounds that are left give the whole hash
abbrev pub invariant-loop-byte : goal.invariant-loop-byte
invariant-loop-byte l = fold hash_step l.hash (drop l.byte-index l.byte-items) ≡ fold hash_step 0xcbf29ce484222325 l.name
