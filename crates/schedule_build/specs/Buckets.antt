-- Numbers under keys, and where the entries of each slot end.
use Rattle.std.specs.Prelude.{◌≡◌, ℕ, ◌+◌, ◌-◌, ◌*◌, ◌/◌, ◌<◌, ◌≤◌, ◌^◌, List, [], ◌∷◌, ◌++◌, All, Bool, Option, None, Some, if◌then◌else◌, length, nat_eq, slice_index_or}
use Rattle.std.specs.List.Sorted.{IsNonDecreasingBy}
use Rattle.schedule_build.specs.declared.buckets.Entry.{Entry}

-- the key of an entry
abbrev pub key_of : Entry → ℕ
key_of e = e.key

-- the entry has a key
abbrev pub has_key : ℕ → Entry → Bool
has_key key e = nat_eq e.key key

-- the number of the first entry for which a test holds
abbrev pub first_number : (Entry → Bool) → List Entry → Option ℕ
first_number test [] = None
first_number test (e ∷ es) = if test e then Some e.number else first_number test es

-- an entry for each, with its key and its number, which counts on from a number
abbrev pub entries_of : {X : Type 0} → (X → ℕ) → ℕ → List X → List Entry
entries_of key at [] = []
entries_of key at (x ∷ xs) = record { key = key x; number = at } ∷ entries_of key (at + 1) xs

-- the slot of a key, where there are so many for all keys of 32 bits
unfoldable pub slot_of : ℕ → ℕ → ℕ
slot_of scale key = key * scale / 2 ^ 32

-- where the entries of a slot end, among so many
abbrev pub end_of : List ℕ → ℕ → ℕ → ℕ
end_of ends slot count = slice_index_or ends slot count

-- where they begin
abbrev pub start_of : List ℕ → ℕ → ℕ → ℕ
start_of ends slot count = if nat_eq slot 0 then 0 else end_of ends (slot - 1) count

-- the entries of each slot end at its place
pub record AreEnds (scale : ℕ) (es : List Entry) (ends : List ℕ) : Type 0 where
  pub bound : (k : ℕ) → end_of ends k (length es) ≤ length es
  pub low : (k i : ℕ) (d : Entry) → i < end_of ends k (length es)
      → slot_of scale (slice_index_or es i d).key ≤ k
  pub high : (k i : ℕ) (d : Entry) → end_of ends k (length es) ≤ i → i < length es
      → k < slot_of scale (slice_index_or es i d).key

-- the keys do not fall, and each slot ends at its place
pub record AreBuckets (scale : ℕ) (es : List Entry) (ends : List ℕ) : Type 0 where
  pub ordered : IsNonDecreasingBy key_of es
  pub slots : AreEnds scale es ends

-- the entries near a key: those before them have lesser keys, and those behind them greater ones
pub record IsNear (key : ℕ) (es near : List Entry) : Type 0 where
  pub before : List Entry
  pub after : List Entry
  pub whole : es ≡ before ++ (near ++ after)
  pub less : All (λ e. e.key < key) before
  pub more : All (λ e. key < e.key) after
