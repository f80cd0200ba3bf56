-- Where the first rules that make the same trains wait stand among all.
use Rattle.std.specs.Prelude.{◌≡◌, ◌≤◌, ◌<◌, ◌+◌, ℕ, Bool, true, false, ◌&&◌, List, All, Some}
use Rattle.std.specs.Prelude.{is_some, length, get_or, nat_lt, unwrap_or}
use Rattle.std.specs.BTreeMap.{BTreeMap, get, is_at}
use Rattle.std.specs.List.{list_any}
use Rattle.std.specs.List.Sorted.{IsPartitionPoint, IsStrictlySortedBy}
use Rattle.std.specs.Map.{lookup, keys_of}
use Rattle.mt_base.specs.declared.tables.RuleRow.{RuleRow}
use Rattle.waiting_rules.specs.declared.bounds.Bounds.{Bounds}
use Rattle.waiting_rules.specs.declared.parts.Part.{Part}
use Rattle.waiting_rules.specs.declared.scopes.Connecting.{Connecting}
use Rattle.waiting_rules.specs.declared.scopes.Scope.{Scope}
use Rattle.waiting_rules.specs.Indexed.{IsPart}
use Rattle.waiting_rules.specs.Rules.{has_wait}
use Rattle.waiting_rules.specs.Scopes.{connecting_cmp, is_connecting, row_of}

-- some rule with a wait above 0 has these fields for the trains that wait
abbrev pub waits_among : List RuleRow → Connecting → Bool
waits_among rules connecting =
    list_any (λ rule. has_wait rule && is_connecting connecting rule) rules

-- the bounds of these trains, which are empty where there are none
abbrev pub bounds_in : List (Connecting × Bounds) → Connecting → Bounds
bounds_in bounds connecting =
    unwrap_or (lookup (is_at (connecting_cmp connecting)) bounds)
    (record { part = record { start = 0; end = 0 }; waits = false })

-- the bounds are those of the rules of the file, and tell whether one of them has a wait above 0
pub record IsBoundOf (rules : List RuleRow) (places : List (Scope × ℕ)) (connecting : Connecting)
    (b : Bounds) : Type 0 where
  pub part : IsPart places connecting b.part
  pub waits : b.waits ≡ waits_among rules connecting

-- the bounds of any trains are those of the rules of the file
abbrev pub HasBounds : List RuleRow → List (Scope × ℕ) → List (Connecting × Bounds) → Type 0
HasBounds rules places bounds = (connecting : Connecting)
    → IsBoundOf rules places connecting (bounds_in bounds connecting)

-- the trains of some of the rules have bounds, and these are those of all rules
pub record HasSome (all : List RuleRow) (places : List (Scope × ℕ)) (rules : List RuleRow)
    (bounds : BTreeMap Connecting Bounds) : Type 0 where
  pub known : (connecting : Connecting) → is_some (get connecting_cmp bounds connecting)
      ≡ list_any (is_connecting connecting) rules
  pub each : (connecting : Connecting) (b : Bounds)
      → get connecting_cmp bounds connecting ≡ Some b → IsBoundOf all places connecting b

-- the parts are those of these trains
pub record ArePartsOf (trains : List Connecting) (places : List (Scope × ℕ))
    (parts : List Part) : Type 0 where
  pub count : length parts ≡ length trains
  pub each : (i : ℕ) (c : Connecting) (d : Part) → i < length parts
      → IsPart places (get_or trains i c) (get_or parts i d)

-- the trains rise
abbrev pub AreInOrder : List (Connecting × Bounds) → Type 0
AreInOrder bounds = IsStrictlySortedBy connecting_cmp (keys_of bounds)

-- the bounds of a row begin at a place
pub record IsStart (bounds : List (Connecting × Bounds)) (row start : ℕ) : Type 0 where
  pub within : start ≤ length bounds
  pub parted : IsPartitionPoint (λ b. nat_lt (row_of b.0.route) row ≡ true)
      (λ b. nat_lt (row_of b.0.route) row ≡ false) bounds start

-- each row begins at its place, and the last place is behind all bounds
pub record AreStarts (bounds : List (Connecting × Bounds)) (starts : List ℕ) : Type 0 where
  pub each : (row d : ℕ) → row < length starts → IsStart bounds row (get_or starts row d)
  pub all : All (λ b. row_of b.0.route + 1 < length starts) bounds
