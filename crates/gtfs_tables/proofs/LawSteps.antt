-- What steps that went well say, and what every row of a table keeps.
use Rattle.gtfs_tables.proofs.Words.{arith, ◌≡◌, ℕ, ◌+◌, List, [], ◌∷◌, Bool, true, false, Option, Some, None, Result, Ok, Err, option_and_then, refl, subst, if◌then◌else◌, Column, Fault, Step, check, rows_from, table_from, ◌>>=◌, field_in, Records}
use Rattle.gtfs_tables.specs.Checks.{need}

-- what goes on was good so far
pub bind-ok : {A B E : Type 0} (r : Result A E) (f : A → Result B E) (y : B) → (r >>= f) ≡ Ok y → (x : A) × (r ≡ Ok x) × (f x ≡ Ok y)
bind-ok (Ok x) f y h = (x, refl, h)
bind-ok (Err e) f y h = absurd (cc h)

abbrev made : {A : Type 0} → (E : Type 0) → A → Result A E
made E x = Ok x

pub ok-same : {A E : Type 0} {x y : A} → made E x ≡ made E y → x ≡ y
ok-same h = cc h

-- a test that content
pub check-ok : {B : Type 0} (f : Fault) (b : Bool) (k : Unit {0} → Result B Fault) (y : B) → (check f b >>= k) ≡ Ok y → (b ≡ true) × (k tt ≡ Ok y)
check-ok f true k y h = (refl, h)
check-ok f false k y h = absurd (cc h)

-- what was there
pub need-ok : {A B : Type 0} (f : Fault) (o : Option A) (k : A → Result B Fault) (y : B) → (need f o >>= k) ≡ Ok y → (x : A) × (o ≡ Some x) × (k x ≡ Ok y)
need-ok f None k y h = absurd (cc h)
need-ok f (Some x) k y h = (x, refl, h)

-- what was there and passed a test
pub tested : {A : Type 0} (test : A → Bool) (o : Option A) (y : A) → option_and_then (λ x. if test x then Some x else None) o ≡ Some y → (o ≡ Some y) × (test y ≡ true)
tested test o y h = grind arith

-- ---- rows

-- what a row of a table keeps, whatever stands in its fields
abbrev pub Keeps : {S : Type 0} → (S → Type 0) → Step S → Type 0
Keeps {S} P step = (row : ℕ) (field : Column → List ℕ) (s next : S) → step row field s ≡ Ok next → P s → P next

rows-keep : {S : Type 0} (P : S → Type 0) (step : Step S) → Keeps P step → (header : List (List ℕ)) (row : ℕ) (s last : S) (rows : List (List (List ℕ))) → rows_from step header row s rows ≡ Ok last → P s → P last
unfolding rows_from
rows-keep {S} P step keeps header row s last [] h k = subst P (ok-same h) k
rows-keep {S} P step keeps header row s last (fields ∷ rows) h k = grind (arith, keeps row (field_in header fields) s, λ (next : S). rows-keep P step keeps header (row + 1) next last rows)

-- what each row keeps is kept by all of them
pub table-keeps : {S : Type 0} (P : S → Type 0) (step : Step S) → Keeps P step → (needed : List Column) (s last : S) (all : Records) → table_from needed step s all ≡ Ok last → P s → P last
unfolding table_from
table-keeps P step keeps needed s last [] h k = absurd (cc h)
table-keeps P step keeps needed s last (header ∷ rows) h k = grind (arith, rows-keep P step keeps header 2 s last rows)
