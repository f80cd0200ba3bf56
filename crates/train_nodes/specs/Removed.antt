-- Events of a train that a message takes out.
use Rattle.std.specs.Prelude.{ℕ, Bool, false, ◌&&◌, ◌||◌, nat_eq, if◌then◌else◌, Option, Some, None}
use Rattle.mt_base.specs.declared.keys.Node.{Node}
use Rattle.delay_model.specs.declared.overrides.Connection.{Connection}

-- it is the departure with which a cancelled part begins or the arrival with which it ends, where
-- these two labels are given
abbrev pub is_end : Option (ℕ × ℕ) → Node → Bool
is_end None n = false
is_end (Some ends) n = nat_eq n.label (if n.dep then ends.0 else ends.1)

-- it is an event of a call of the train whose label passes a test, or such an end
abbrev pub is_removed : ℕ → (ℕ → Bool) → Option (ℕ × ℕ) → Node → Bool
is_removed train test ends n = nat_eq n.train train && (is_end ends n || test n.label)

-- the connection names one of them
abbrev pub names_removed : ℕ → (ℕ → Bool) → Option (ℕ × ℕ) → Connection → Bool
names_removed train test ends p =
    is_removed train test ends p.arrival || is_removed train test ends p.departure
