-- The records of a text, one at a time.
use Rattle.gtfs_tables.proofs.Words.{◌≡◌, ◌++◌, map, ℕ, zero, suc, List, [], ◌∷◌, None, Bool, true, false, Ok, get_or, refl, arith, next_record, Reached, AreRecords, default_config, Reader, State, Column, Text, Steps}
use Rattle.std.proofs.lemmas.List.{map-append}
use Rattle.csv.specs.Reading.{ReadRecord, reader_config, reader_state}
use Rattle.csv.proofs.ReadFacts.{rows-more, rows-end}
use Rattle.csv.specs.Records.{field_at}
use Rattle.gtfs_tables.specs.Checks.{check_header}
use Rattle.gtfs_tables.specs.Sheets.{header_of}
use Rattle.gtfs_tables.specs.Texts.{known}

first_record : (s : State) (y : List ℕ) (f : List (List ℕ)) (t : State) (z : List ℕ) (all : List (List (List ℕ)))
    → Reached default_config s y (f ∷ []) t z → AreRecords default_config s y all
    → (rest : List (List (List ℕ))) × (all ≡ f ∷ rest) × AreRecords default_config t z rest
unfolding Reached
first_record s y f t z [] read are = absurd (grind arith)
first_record s y f t z (r ∷ rs) read are = (rs, grind arith, grind arith)

no_record : (s : State) (y : List ℕ) (all : List (List (List ℕ))) → next_record default_config s [] [] y ≡ None → AreRecords default_config s y all → all ≡ []
unfolding Reached
no_record s y [] none are = refl
no_record s y (r ∷ rs) none are = grind arith

pub stepped : (old new : Reader Text) (found : Bool) (fields : List (List ℕ)) → reader_config old ≡ default_config → ReadRecord known old new found fields → Steps old new found fields
unfolding Reached
stepped old new true fields config read = λ all remains.
    let more = rows-more known old new fields default_config (reader_state old) remains.0 remains.0 [] config remains.1 (refl, refl) read in
    let first = first_record (reader_state old) remains.0 fields (reader_state new) more.0 all more.2 remains.2 in
    (first.0, first.1, (more.0, more.1, first.2))
stepped old new false fields config read = λ all remains.
    no_record (reader_state old) remains.0 all (rows-end known old new fields default_config remains.0 config remains.1 read) remains.2

-- a field that is not there is seen as empty
pub field_missing : (fields : List (List ℕ)) (i : ℕ) → field_at fields i ≡ None → get_or fields i [] ≡ []
unfolding field_at
field_missing [] i none = refl
field_missing (f ∷ fs) zero none = grind arith
field_missing (f ∷ fs) (suc i) none = field_missing fs i none

pub header_good : (needed : List Column) (all rest : List (List (List ℕ))) (header : List (List ℕ)) → all ≡ header ∷ rest → check_header needed header ≡ Ok tt
    → header_of needed all ≡ Ok (header, rest)
header_good needed all rest header split good = grind arith

-- the places of two lists of columns stand one after the other
pub map_joined : {A B : Type 0} (f : A → B) (xs ys : List A) (none one two : List B) → none ≡ [] → one ≡ none ++ map f xs → two ≡ one ++ map f ys → two ≡ map f (xs ++ ys)
map_joined f xs ys none one two first second third = rw (third, second, first, map-append f xs ys) refl
