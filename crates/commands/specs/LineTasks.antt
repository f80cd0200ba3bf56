-- What a command is to do that answers line by line: what it loads behind the feed, which may be a
-- table of the feed's folder that is its own, and what it writes.
use Rattle.std.specs.Prelude.{ℕ, ◌≡◌, ◌⊎◌, ◌++◌, List, [], Bool, false, nat_lt, if◌then◌else◌, codes, length, Result, Ok, Err, None, Some}
use Rattle.std.specs.declared.option.Option.{Option}
use Rattle.command_words.specs.Words.{Asked}
use Rattle.delay_model.specs.declared.network.Network.{Network}
use Rattle.information_service.specs.Answering.{IsBeginning, LineOutput, IsWhole as IsWholeOutput}
use Rattle.information_service.specs.Networks.{IsSame, over}
use Rattle.information_service.specs.ServiceState.{ServiceState}
use Rattle.commands.specs.Tasks.{Output, Task}

-- what it begins with: a service, and what it keeps beside it
pub record Start (C : Type 0) : Type 0 where
  pub service : ServiceState
  pub kept : C

-- what it loads behind the feed
pub record Behind (C : Type 0) : Type 0 where
  -- the name of the table of the feed's folder that it takes, if it takes one
  pub table : Option (List ℕ)
  -- what it begins with, by what the words ask for, the bytes of its table, if there is such a
  -- table, and the service that was loaded; or the line by which it refuses what it finds
  pub begins : Asked → Option (List ℕ) → ServiceState → Result (Start C) (List ℕ)

-- ---- its table

-- a table has more than 268,435,456 bytes
abbrev pub is_long : Option (List ℕ) → Bool
is_long None = false
is_long (Some bytes) = nat_lt 268435456 (length bytes)

-- the line by which such a table is refused
abbrev pub long_line : List ℕ → List ℕ
long_line name = codes "traind: feed refused: " ++ (name ++ codes " is too long\n")

-- the table of this name among the tables of a folder, if there is such a name and such a table
abbrev pub table_among : Option (List ℕ) → (List ℕ → Option (List ℕ)) → Option (List ℕ)
table_among None tables = None
table_among (Some name) tables = tables name

-- a table of this name that is too long is refused; else this is due
abbrev pub unless_long : {C : Type 0} → Option (List ℕ) → Option (List ℕ)
    → Result (Start C) (List ℕ) → Result (Start C) (List ℕ)
unless_long None table due = due
unless_long (Some name) table due = if is_long table then Err (long_line name) else due

-- ---- what it begins with

-- the same, by the bytes of its table however many they are
abbrev pub begins_by : {C : Type 0} → Behind C → Asked → Option (List ℕ) → ServiceState
    → Result (Start C) (List ℕ)
begins_by b asked table t = unless_long b.table table (b.begins asked table t)

-- it begins with this by some words and some table, behind some service
pub record BeginsSome {C : Type 0} (b : Behind C) (s : Start C) : Type 0 where
  pub asked : Asked
  pub table : Option (List ℕ)
  pub service : ServiceState
  pub is : b.begins asked table service ≡ Ok s

-- whatever it begins with, the service and what is kept fit each other, as this output has it
abbrev pub BeginsFitting : {C : Type 0} → Behind C → LineOutput C → Type 0
BeginsFitting {C = C} b o = (asked : Asked) (table : Option (List ℕ)) (t : ServiceState)
    (s : Start C) → b.begins asked table t ≡ Ok s → o.fits s.service s.kept

-- it refuses by this line some table, behind some service
pub record RefusesSome {C : Type 0} (b : Behind C) (line : List ℕ) : Type 0 where
  pub asked : Asked
  pub table : Option (List ℕ)
  pub service : ServiceState
  pub is : b.begins asked table service ≡ Err line

-- this line is one by which it refuses: what it finds, or a table that is too long
abbrev pub Refuses : {C : Type 0} → Behind C → List ℕ → Type 0
Refuses b line = RefusesSome b line
    ⊎ ((name : List ℕ) × (b.table ≡ Some name) × (line ≡ long_line name))

-- what it begins with over another network
abbrev pub begun_over : {C : Type 0} → Network → Result (Start C) (List ℕ)
    → Result (Start C) (List ℕ)
begun_over nw (Ok s) = Ok (record { service = over nw s.service; kept = s.kept })
begun_over nw (Err line) = Err line

-- it begins the same over networks that no definition tells apart, and does not change the network
pub record IsBegunAlike {C : Type 0} (b : Behind C) : Type 0 where
  pub alike : (nw : Network) (asked : Asked) (table : Option (List ℕ)) (t : ServiceState)
      → IsSame nw t.network
      → b.begins asked table (over nw t) ≡ begun_over nw (b.begins asked table t)
  pub keeps : (asked : Asked) (table : Option (List ℕ)) (t : ServiceState) (s : Start C)
      → b.begins asked table t ≡ Ok s → s.service.network ≡ t.network

-- ---- what it is to do

-- what it writes. Where nothing was read it may have written nothing
abbrev pub line_output : {C : Type 0} → LineOutput C → Output (Start C)
line_output o = record {
  IsWhole = λ s. IsWholeOutput o s.service s.kept;
  AreReplies = λ s lines bytes. IsBeginning o s.service s.kept lines bytes
      ⊎ ((lines ≡ []) × (bytes ≡ []));
}

-- it loads this behind the feed, and then writes this
abbrev pub line_task : {C : Type 0} → Behind C → LineOutput C → Task (Start C)
line_task b o = record {
  begins = λ told asked. begins_by b asked (table_among b.table (told asked.folder));
  Refuses = Refuses b;
  output = line_output o;
}

-- ---- a command that loads nothing behind the feed

-- it begins with the service that was loaded, and keeps nothing
abbrev pub nothing_behind : Behind (Unit {0})
nothing_behind = record {
  table = None;
  begins = λ asked table t. Ok (record { service = t; kept = tt });
}
