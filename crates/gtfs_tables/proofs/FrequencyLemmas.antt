-- Whether a second record follows the first.
use Rattle.gtfs_tables.proofs.Words.{◌≡◌, ◌∷◌, ℕ, arith, List, Bool, true, false, Result, Ok, Err, Reader, Text, Remains, Steps}
use Rattle.std.specs.Prelude.{IfOk, IfErr}
use Rattle.gtfs_tables.specs.declared.faults.TableError.{TableError}
use Rattle.gtfs_tables.specs.declared.faults.TableError.TheVariants as errors
use Rattle.gtfs_tables.specs.Checks.{Gives}
use Rattle.gtfs_tables.specs.Frequencies.{has_rows}

-- what was read behind the header says whether there is a row
pub second_record : (found : Result Bool TableError) (old new : Reader Text) (header fields : List (List ℕ)) (all rest : List (List (List ℕ)))
    → all ≡ header ∷ rest → Remains old rest → IfOk found (λ b. Steps old new b fields) → IfErr found (λ e. e ≡ errors.OutOfMemory)
    → Gives (λ (b : Bool). b) found (Ok (has_rows all))
second_record (Ok true) old new header fields all rest split remains steps memory = let more = steps rest remains in grind (arith, more.1)
second_record (Ok false) old new header fields all rest split remains steps memory = let none = steps rest remains in grind (arith, none)
second_record (Err e) old new header fields all rest split remains steps memory = grind arith
