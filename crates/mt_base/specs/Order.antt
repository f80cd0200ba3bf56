-- Events by name, the order in which they are settled, and the order of the index of events.
use Rattle.std.specs.Prelude.{ℕ, Bool, refl, nat_eq, ◌&&◌}
use mathlib.Core.Bool.{beq}
use Rattle.std.specs.Coded.{Coded, code_by, coded×, coded_ℕ, coded_bool}
use Rattle.std.specs.declared.cmp.Ordering.{Ordering}
use Rattle.std.specs.Ordering.{nat_cmp, bool_cmp, ordering_then, is_lt}
use Rattle.mt_base.specs.declared.keys.Key.{Key}
use Rattle.mt_base.specs.declared.keys.Node.{Node}
use Rattle.mt_base.specs.declared.index_entries.Entry.{Entry}

-- the event that a key is of
abbrev pub node_of : Key → Node
node_of k = record { train = k.train; label = k.label; dep = k.dep }

-- the key of an event that is scheduled at a time
abbrev pub key_of : ℕ → Node → Key
key_of time n = record { time = time; train = n.train; label = n.label; dep = n.dep }

-- the order in which events are settled: by scheduled time, then by train, then by label of the
-- call, and the arrival of a call before its departure
abbrev pub key_cmp : Key → Key → Ordering
key_cmp a b =
    ordering_then (nat_cmp a.time b.time) (ordering_then (nat_cmp a.train b.train)
    (ordering_then (nat_cmp a.label b.label) (bool_cmp a.dep b.dep)))

-- the event of key a is settled before that of key b
unfoldable pub is_before : Key → Key → Bool
is_before a b = is_lt (key_cmp a b)

-- a and b are one key: the same scheduled time, train, label, and both arrivals or both departures
unfoldable pub is_same : Key → Key → Bool
is_same a b = nat_eq a.time b.time && (nat_eq a.train b.train
    && (nat_eq a.label b.label && beq a.dep b.dep))

-- a and b are one event: the same train, label, and both arrivals or both departures
unfoldable pub is_same_node : Node → Node → Bool
is_same_node a b = nat_eq a.train b.train && (nat_eq a.label b.label && beq a.dep b.dep)

-- events by name: by train, then by label of the call, and the arrival of a call before its
-- departure
abbrev pub node_cmp : Node → Node → Ordering
node_cmp a b = ordering_then (nat_cmp a.train b.train)
    (ordering_then (nat_cmp a.label b.label) (bool_cmp a.dep b.dep))

-- an event as its train, its label, and whether it is a departure, so that finite maps can have
-- events as keys
abbrev pub coded_node : Coded Node
coded_node =
    code_by (ℕ × (ℕ × Bool)) (coded× coded_ℕ (coded× coded_ℕ coded_bool))
    (λ s. (s.train, (s.label, s.dep))) (λ p. record { train = p.0; label = p.1.0; dep = p.1.1 })
    (λ _. refl)

-- entries of the index of events: by stop, the arrivals before the departures, by scheduled time,
-- then by event
abbrev pub entry_cmp : Entry → Entry → Ordering
entry_cmp a b =
    ordering_then (nat_cmp a.stop b.stop) (ordering_then (bool_cmp a.dep b.dep)
    (ordering_then (nat_cmp a.time b.time) (node_cmp a.node b.node)))

-- entry a stands before entry b in the index of events
unfoldable pub is_before_entry : Entry → Entry → Bool
is_before_entry a b = is_lt (entry_cmp a b)
