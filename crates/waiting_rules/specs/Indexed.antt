-- What is kept of waiting rules, so that the first one that fits is found.
use Rattle.std.specs.Prelude.{◌≡◌, ℕ, ◌≤◌, Bool, List, All, length, slice_range, Option}
use Rattle.std.specs.BTreeMap.{is_at}
use Rattle.std.specs.List.{position, list_any}
use Rattle.std.specs.List.Sorted.{IsStrictlySortedBy}
use Rattle.std.specs.Map.{lookup, keys_of}
use Rattle.mt_base.specs.declared.tables.RuleRow.{RuleRow}
use Rattle.waiting_rules.specs.declared.parts.Part.{Part}
use Rattle.waiting_rules.specs.declared.scopes.Connecting.{Connecting}
use Rattle.waiting_rules.specs.declared.scopes.Scope.{Scope}
use Rattle.waiting_rules.specs.Scopes.{scope_cmp, has_scope}

-- the place of a scope
abbrev pub place_of : List (Scope × ℕ) → Scope → Option ℕ
place_of places scope = lookup (is_at (scope_cmp scope)) places

-- the place in the file of the first rule of each scope is kept
abbrev pub HasPlaces : List RuleRow → List (Scope × ℕ) → Type 0
HasPlaces rules places = (scope : Scope) → place_of places scope
    ≡ position (has_scope scope) rules

-- the scopes rise
abbrev pub AreSorted : List (Scope × ℕ) → Type 0
AreSorted places = IsStrictlySortedBy scope_cmp (keys_of places)

-- the first rules are those of the file, in the order of scopes
pub record AreFirst (rules : List RuleRow) (first_rules : List (Scope × ℕ)) : Type 0 where
  pub sorted : AreSorted first_rules
  pub places : HasPlaces rules first_rules

-- the scope of trains that wait and a field for the feeder's route
abbrev pub scope : Connecting → Option ℕ → Scope
scope connecting feeder = record { connecting = connecting; feeder = feeder }

-- the part is within so many places
pub record IsWithin (count : ℕ) (part : Part) : Type 0 where
  pub order : part.start ≤ part.end
  pub within : part.end ≤ count

-- the part has the places of all scopes with these trains, and no others
pub record IsPart (places : List (Scope × ℕ)) (connecting : Connecting) (part : Part) : Type 0 where
  pub bound : IsWithin (length places) part
  pub trains : All (λ place. place.0.connecting ≡ connecting)
      (slice_range places part.start part.end)
  pub all : (feeder : Option ℕ) → place_of (slice_range places part.start part.end)
      (scope connecting feeder) ≡ place_of places (scope connecting feeder)

-- the rule has the scope of some of the trains with this field for the feeder's route
abbrev pub is_in : List Connecting → Option ℕ → RuleRow → Bool
is_in trains feeder rule =
    list_any (λ connecting. has_scope (scope connecting feeder) rule) trains
