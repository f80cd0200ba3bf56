use Rattle.std.proofs.Common.{◌≡◌, drop}
use Rattle.message_reader.specs.Claims.{rides_resolved}
use Rattle.message_reader.proofs.ItemLemmas.{found_before}
use Rattle.message_reader.proofs.resolve_claims.rides.Given as goal

abbrev pub invariant-loop-name : goal.invariant-loop-name
invariant-loop-name l = found_before l.found.items (rides_resolved l.dir (drop l.name-index l.named)) ≡ rides_resolved l.dir l.named
