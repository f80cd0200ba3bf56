-- How the numbers of names are found by a hash.
use Rattle.std.specs.Prelude.{◌≡◌, ℕ, ◌*◌, ◌/◌, ◌%◌, ◌^◌, List, [], All, fold, bit_xor, bytes_eq, slice_index_or}
use Rattle.std.specs.Cmp.Lexicographic.{slice_cmp}
use Rattle.std.specs.List.Sorted.{IsSorted}
use Rattle.std.specs.Ordering.{nat_cmp, ordering_then}
use Rattle.std.specs.declared.cmp.Ordering.{Ordering}
use Rattle.schedule_build.specs.Buckets.{first_number}
use Rattle.schedule_build.specs.Stored.{number_of_name}
use Rattle.schedule_build.specs.declared.buckets.Entry.{Entry}
use Rattle.schedule_build.specs.declared.name_numbers.NameNumbers.{NameNumbers}

-- one round of FNV-1a
abbrev pub hash_step : ℕ → ℕ → ℕ
hash_step hash byte = (bit_xor hash byte * 0x100000001b3) % 2 ^ 64

-- a round for each byte, and the upper half of a product
unfoldable pub name_hash : List ℕ → ℕ
name_hash name = (fold hash_step 0xcbf29ce484222325 name * 0x9e3779b97f4a7c15) % 2 ^ 64 / 2 ^ 32

-- the name of an entry, or the empty name where there is none
abbrev pub name_of_entry : List (List ℕ) → Entry → List ℕ
name_of_entry names e = slice_index_or names e.number []

-- how an entry stands to a name with a hash: by the hash, then by the bytes
abbrev pub hash_cmp : List (List ℕ) → ℕ → List ℕ → Entry → Ordering
hash_cmp names hash name e =
    ordering_then (nat_cmp e.key hash) (slice_cmp nat_cmp (name_of_entry names e) name)

-- how two entries stand: by the hash, then by the bytes, then by the number
abbrev pub entry_cmp : List (List ℕ) → Entry → Entry → Ordering
entry_cmp names a b =
    ordering_then (hash_cmp names b.key (name_of_entry names b) a) (nat_cmp a.number b.number)

-- the entries are in their order, each has the hash of its name, and the first of a name has the
-- number of the first name that is equal
pub record IsNumbered (names : List (List ℕ)) (numbers : NameNumbers) : Type 0 where
  pub sorted : IsSorted (entry_cmp names) numbers.buckets
  pub hashed : All (λ e. e.key ≡ name_hash (name_of_entry names e)) numbers.buckets
  pub found : (name : List ℕ) → first_number (λ e. bytes_eq (name_of_entry names e) name)
      numbers.buckets ≡ number_of_name names name
