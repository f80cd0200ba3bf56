-- Which trains rules with a wait above 0 make wait.
use Rattle.std.specs.Prelude.{◌≡◌, ◌<◌, ℕ, Bool, true, false, ◌&&◌, ◌||◌, is_none, List, length}
use Rattle.std.specs.Prelude.{unwrap_or, slice_get, slice_index_or, nat_eq, Option}
use Rattle.std.specs.Option.{option_map_or}
use Rattle.std.specs.BTreeSet.{BTreeSet, contains}
use Rattle.std.specs.List.{list_any}
use Rattle.mt_base.specs.declared.tables.RuleRow.{RuleRow}
use Rattle.waiting_rules.specs.declared.scopes.Connecting.{Connecting}
use Rattle.waiting_rules.specs.Rules.{has_wait}
use Rattle.waiting_rules.specs.Scopes.{connecting_cmp, is_connecting}
use Rattle.waiting_rules.specs.WaitTable.{some_waits, may_wait, station_in}

-- the rule has a wait above 0 and names this stop
abbrev pub names_stop : ℕ → RuleRow → Bool
names_stop stop rule = has_wait rule && option_map_or (λ n. nat_eq n stop) rule.stop false

-- the rule has a wait above 0 and names no stop
abbrev pub names_none : RuleRow → Bool
names_none rule = has_wait rule && is_none rule.stop

-- the flag of a location; one that is not there is taken to be marked
abbrev pub flag_at : List Bool → ℕ → Bool
flag_at flags stop = unwrap_or (slice_get flags stop) true

-- each location has the flag of its own or of its station
pub record AreFlags (parents : List (Option ℕ)) (named flags : List Bool) : Type 0 where
  pub count : length flags ≡ length named
  pub each : (stop : ℕ) → stop < length named → slice_index_or flags stop true
      ≡ (slice_index_or named stop true || flag_at named (station_in parents stop))

-- where there is no flag, no rule with a wait above 0 makes trains wait; a location that is there
-- with its station has a flag exactly where some such rule is for it
pub record HasFlags (parents : List (Option ℕ)) (rules : List RuleRow)
    (flags : List Bool) : Type 0 where
  pub none : (route stop : ℕ) → flag_at flags stop ≡ false
      → some_waits (record { parents = parents; rules = rules }) route stop ≡ false
  pub some : (stop : ℕ) → stop < length parents → station_in parents stop < length parents
      → flag_at flags stop ≡ may_wait (record { parents = parents; rules = rules }) stop

-- these trains are among those that wait
abbrev pub in_waiting : BTreeSet Connecting → Connecting → Bool
in_waiting waiting connecting = contains connecting_cmp waiting connecting

-- the trains that rules with a wait above 0 make wait are kept
abbrev pub HasWaiting : List RuleRow → BTreeSet Connecting → Type 0
HasWaiting rules waiting = (connecting : Connecting) → in_waiting waiting connecting
    ≡ list_any (λ rule. has_wait rule && is_connecting connecting rule) rules
