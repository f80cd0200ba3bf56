-- The records of a text are all that `csv` reads of it.
use Rattle.gtfs_tables.proofs.Words.{◌≡◌, ℕ, zero, suc, ◌+◌, ◌<◌, ◌≤◌, List, [], ◌∷◌, Option, None, Some, length, refl, arith, inl, inr, next_record, Reached, AreRecords, default_config, State, records_of, AreRecordsOf}
use Rattle.std.proofs.Common.{◌⊎◌}
use Rattle.csv.specs.Machine.{Read, step, fields_after, field_after}
use Rattle.csv.specs.declared.parser.Config.{Config}
use Rattle.csv.specs.Reading.{records_from, records_next, strip_bom}
use Rattle.csv.specs.declared.parser.State.TheVariants as st

-- a record takes bytes, or it is what the end of the text leaves
record IsLast (p : Read) : Type 0 where
  pub state : p.1 ≡ st.StartRecord
  pub bytes : p.2 ≡ []

taken : (cfg : Config) (s : State) (fields : List (List ℕ)) (field bytes : List ℕ) (p : Read) → next_record cfg s fields field bytes ≡ Some p → IsLast p ⊎ (length p.2 < length bytes)
unfolding next_record
taken cfg s fields field [] p h = inl (grind arith)
taken cfg s fields field (c ∷ rest) p h =
    let turn = step cfg s c in
    grind (arith, taken cfg turn.0 (fields_after turn.1 fields field) (field_after turn.1 c field) rest p)

-- no byte is left
from-end : (cfg : Config) (n : ℕ) → records_from cfg n st.StartRecord [] ≡ []
unfolding records_from next_record
from-end cfg zero = refl
from-end cfg (suc n) = refl

from-next : (cfg : Config) (n : ℕ) (s : State) (bytes : List ℕ) (next : Option Read) → next_record cfg s [] [] bytes ≡ next → ((p : Read) → next ≡ Some p → AreRecords cfg p.1 p.2 (records_from cfg n p.1 p.2))
    → AreRecords cfg s bytes (records_next (records_from cfg n) next)
unfolding Reached
from-next cfg n s bytes None none h = (s, bytes, (refl, refl), none)
from-next cfg n s bytes (Some p) e h = let behind = h p refl in (behind.0, behind.1, (p, e, refl, behind.2), behind.3)

from : (cfg : Config) (n : ℕ) (s : State) (bytes : List ℕ) → length bytes < n → AreRecords cfg s bytes (records_from cfg n s bytes)
unfolding Reached next_record records_from
from cfg zero s bytes l = absurd (omega arith)
from cfg (suc n) s bytes l = from-next cfg n s bytes (next_record cfg s [] [] bytes) refl (λ p found.
    elim (taken cfg s [] [] bytes p found) [
      | inl last ↦ rw (last.state, last.bytes, from-end cfg n) (st.StartRecord, [], (refl, refl), refl)
      | inr less ↦ from cfg n p.1 p.2 (omega (arith, less))
    ])

pub records_are : (text : List ℕ) → AreRecordsOf text (records_of text)
unfolding records_of
records_are text = from default_config (length (strip_bom text) + 1) st.StartRecord (strip_bom text) (omega arith)

-- ---- how many they are

next-few : (n : ℕ) (more : State → List ℕ → List (List (List ℕ))) (next : Option Read) → ((s : State) (bytes : List ℕ) → length (more s bytes) ≤ n) → length (records_next more next) ≤ suc n
next-few n more None few = omega arith
next-few n more (Some p) few = omega (arith, few p.1 p.2)

from-few : (cfg : Config) (n : ℕ) (s : State) (bytes : List ℕ) → length (records_from cfg n s bytes) ≤ n
unfolding records_from
from-few cfg zero s bytes = omega arith
from-few cfg (suc n) s bytes = next-few n (records_from cfg n) (next_record cfg s [] [] bytes) (from-few cfg n)

stripped : (text : List ℕ) → length (strip_bom text) ≤ length text
unfolding strip_bom
stripped [] = omega arith
stripped (a ∷ []) = omega arith
stripped (a ∷ b ∷ []) = omega arith
stripped (a ∷ b ∷ c ∷ rest) = grind arith

-- one more than bytes at most
pub records-few : (text : List ℕ) → length (records_of text) ≤ length text + 1
unfolding records_of
records-few text = omega (arith, stripped text, from-few default_config (length (strip_bom text) + 1) st.StartRecord (strip_bom text))
