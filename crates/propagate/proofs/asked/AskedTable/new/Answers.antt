use Rattle.std.proofs.Common.{◌≡◌, ℕ, zero, suc, Option, None, get_or, ap, refl}
use Rattle.std.specs.Prelude.{replicate}
use Rattle.propagate.specs.Asked.{asked_in, slot_of}
use Rattle.propagate.specs.declared.asked.Entry.{Entry}
use Rattle.propagate.proofs.asked.AskedTable.new.Goals as goal

-- no slot has an entry
blank : (n i : ℕ) → get_or (replicate {A = Option Entry} n None) i None ≡ None
blank zero i = refl
blank (suc n) zero = refl
blank (suc n) (suc i) = blank n i

pub returns : goal.returns
returns c = λ q. ap (λ o. asked_in o q) (blank 32 (slot_of q))
