-- An entry of a table is that of one key.
use Rattle.propagate.proofs.Words.{◌≡◌, false, Option, None, Some, refl, arith, Key, is_same, same-is}
use Rattle.propagate.specs.Asked.{asked_in}
use Rattle.propagate.specs.declared.asked.Asked.{Asked}
use Rattle.propagate.specs.declared.asked.Entry.{Entry}

pub of-one : (entry : Option Entry) (k q : Key) → is_same k q ≡ false → (a : Asked) → asked_in entry k ≡ Some a → asked_in entry q ≡ None
of-one None k q apart a h = refl
of-one (Some e) k q apart a h = grind (arith, same-is e.key k)
