-- The orders of keys, events and entries are total, and two that are the same are one.
use Rattle.std.proofs.Common.{◌≡◌, ℕ, Bool, true, false, ◌&&◌, nat_eq, refl, ◌∙◌, ap, Ordering}
use Rattle.std.specs.declared.cmp.Ordering.TheVariants.{Less, Equal, Greater}
use Rattle.std.specs.Cmp.{IsTotalOrder, bool_cmp_total}
use Rattle.std.specs.Ordering.{nat_cmp, bool_cmp, ordering_then, ordering_reverse, is_lt}
use mathlib.Core.Bool.{beq}
use Rattle.std.proofs.lemmas.Bool.{and_parts, and_from, eqb-true, eq-eqb}
use Rattle.std.proofs.lemmas.Cmp.{then_total, on_total, nat_cmp_total, tied_itself}
use Rattle.std.proofs.lemmas.Map.Lookups.{exact_unsigned}
use Rattle.mt_base.specs.declared.keys.Key.{Key}
use Rattle.mt_base.specs.declared.keys.Node.{Node}
use Rattle.mt_base.specs.declared.index_entries.Entry.{Entry}
use Rattle.mt_base.specs.Order.{key_cmp, is_before, is_same, node_of, key_of, node_cmp, is_same_node, entry_cmp, is_before_entry}

-- the order of events is total
pub nodes_total : IsTotalOrder node_cmp
nodes_total = then_total (on_total (λ n. n.train) nat_cmp_total) (then_total (on_total (λ n. n.label) nat_cmp_total) (on_total (λ n. n.dep) bool_cmp_total))

-- the order of keys is total
pub keys_total : IsTotalOrder key_cmp
keys_total =
    then_total (on_total (λ k. k.time) nat_cmp_total)
    (then_total (on_total (λ k. k.train) nat_cmp_total) (then_total (on_total (λ k. k.label) nat_cmp_total) (on_total (λ k. k.dep) bool_cmp_total)))

-- the order of entries is total
pub entries_total : IsTotalOrder entry_cmp
entries_total =
    then_total (on_total (λ e. e.stop) nat_cmp_total)
    (then_total (on_total (λ e. e.dep) bool_cmp_total) (then_total (on_total (λ e. e.time) nat_cmp_total) (on_total (λ e. e.node) nodes_total)))

beq-true : (a b : Bool) → beq a b ≡ true → a ≡ b
beq-true true true h = refl
beq-true false false h = refl
beq-true true false h = cc
beq-true false true h = cc

beq-itself : (a : Bool) → beq a a ≡ true
beq-itself true = refl
beq-itself false = refl

lt-Less : (o : Ordering) → is_lt o ≡ true → o ≡ Less
lt-Less Less h = refl
lt-Less Equal h = cc
lt-Less Greater h = cc

then-Equal : (a b : Ordering) → ordering_then a b ≡ Equal → (a ≡ Equal) × (b ≡ Equal)
then-Equal Less b h = absurd (cc)
then-Equal Equal b h = (refl, h)
then-Equal Greater b h = absurd (cc)

pub exact_bools : (a b : Bool) → bool_cmp a b ≡ Equal → a ≡ b
exact_bools true true h = refl
exact_bools false false h = refl
exact_bools true false h = absurd (cc)
exact_bools false true h = absurd (cc)

-- one event is settled before a second, and that before a third: so the first is before the third
pub before-trans : (a b c : Key) → is_before a b ≡ true → is_before b c ≡ true → is_before a c ≡ true
unfolding is_before
before-trans a b c h k = ap is_lt (keys_total.trans a b c (lt-Less (key_cmp a b) h) (lt-Less (key_cmp b c) k))

-- no key is before itself
pub before-itself : (a : Key) → is_before a a ≡ false
unfolding is_before
before-itself a = ap is_lt (tied_itself keys_total a)

-- of two keys at most one is before the other
pub before-asymmetric : (a b : Key) → is_before a b ≡ true → is_before b a ≡ false
unfolding is_before
before-asymmetric a b h = ap is_lt (keys_total.antisymm b a ∙ ap ordering_reverse (lt-Less (key_cmp a b) h))

key_by : ℕ → ℕ → ℕ → Bool → Key
key_by time train label dep = record { time = time; train = train; label = label; dep = dep }

key_by-agree : (t u n m l k : ℕ) (d e : Bool) → t ≡ u → n ≡ m → l ≡ k → d ≡ e → key_by t n l d ≡ key_by u m k e
key_by-agree t u n m l k d e p q r s = cc

node_by : ℕ → ℕ → Bool → Node
node_by train label dep = record { train = train; label = label; dep = dep }

node_by-agree : (n m l k : ℕ) (d e : Bool) → n ≡ m → l ≡ k → d ≡ e → node_by n l d ≡ node_by m k e
node_by-agree n m l k d e p q r = cc

entry_by : ℕ → Bool → ℕ → Node → Entry
entry_by stop dep time node = record { stop = stop; dep = dep; time = time; node = node }

entry_by-agree : (s r : ℕ) (d e : Bool) (t u : ℕ) (n m : Node) → s ≡ r → d ≡ e → t ≡ u → n ≡ m → entry_by s d t n ≡ entry_by r e u m
entry_by-agree s r d e t u n m p q v w = cc

-- keys that are the same are one
pub same-is : (a b : Key) → is_same a b ≡ true → a ≡ b
unfolding is_same key_by
same-is a b h =
    let time = and_parts _ _ h in
    let train = and_parts _ _ time.1 in
    let label = and_parts _ _ train.1 in
    key_by-agree a.time b.time a.train b.train a.label b.label a.dep b.dep (eqb-true _ _ time.0) (eqb-true _ _ train.0) (eqb-true _ _ label.0) (beq-true a.dep b.dep label.1)

-- a key is the same as itself
pub same-itself : (a : Key) → is_same a a ≡ true
unfolding is_same
same-itself a = and_from _ _ (eq-eqb a.time a.time refl) (and_from _ _ (eq-eqb a.train a.train refl) (and_from _ _ (eq-eqb a.label a.label refl) (beq-itself a.dep)))

-- what is before a key is before any key that is the same
pub before-same : (a b c : Key) → is_same b c ≡ true → is_before a b ≡ is_before a c
before-same a b c h = ap (is_before a) (same-is b c h)

-- events that are the same are one
pub same_node-is : (a b : Node) → is_same_node a b ≡ true → a ≡ b
unfolding is_same_node node_by
same_node-is a b h =
    let train = and_parts _ _ h in
    let label = and_parts _ _ train.1 in
    node_by-agree a.train b.train a.label b.label a.dep b.dep (eqb-true _ _ train.0) (eqb-true _ _ label.0) (beq-true a.dep b.dep label.1)

-- an event is the same as itself
pub same_node-itself : (a : Node) → is_same_node a a ≡ true
unfolding is_same_node
same_node-itself a = and_from _ _ (eq-eqb a.train a.train refl) (and_from _ _ (eq-eqb a.label a.label refl) (beq-itself a.dep))

-- events of which neither is before the other are one
pub exact_nodes : (a b : Node) → node_cmp a b ≡ Equal → a ≡ b
unfolding node_by
exact_nodes a b h =
    let train = then-Equal (nat_cmp a.train b.train) _ h in
    let label = then-Equal (nat_cmp a.label b.label) _ train.1 in
    node_by-agree a.train b.train a.label b.label a.dep b.dep (exact_unsigned _ _ train.0) (exact_unsigned _ _ label.0) (exact_bools a.dep b.dep label.1)

-- keys of which neither is before the other are one
pub exact_keys : (a b : Key) → key_cmp a b ≡ Equal → a ≡ b
unfolding key_by
exact_keys a b h =
    let time = then-Equal (nat_cmp a.time b.time) _ h in
    let train = then-Equal (nat_cmp a.train b.train) _ time.1 in
    let label = then-Equal (nat_cmp a.label b.label) _ train.1 in
    key_by-agree a.time b.time a.train b.train a.label b.label a.dep b.dep (exact_unsigned _ _ time.0) (exact_unsigned _ _ train.0) (exact_unsigned _ _ label.0) (exact_bools a.dep b.dep label.1)

-- entries of which neither is before the other are one
pub exact_entries : (a b : Entry) → entry_cmp a b ≡ Equal → a ≡ b
unfolding entry_by
exact_entries a b h =
    let stop = then-Equal (nat_cmp a.stop b.stop) _ h in
    let dep = then-Equal (bool_cmp a.dep b.dep) _ stop.1 in
    let time = then-Equal (nat_cmp a.time b.time) _ dep.1 in
    entry_by-agree a.stop b.stop a.dep b.dep a.time b.time a.node b.node (exact_unsigned _ _ stop.0) (exact_bools a.dep b.dep dep.0) (exact_unsigned _ _ time.0) (exact_nodes a.node b.node time.1)

-- one entry is before a second, and that before a third: so the first is before the third
pub before_entry-trans : (a b c : Entry) → is_before_entry a b ≡ true → is_before_entry b c ≡ true → is_before_entry a c ≡ true
unfolding is_before_entry
before_entry-trans a b c h k = ap is_lt (entries_total.trans a b c (lt-Less (entry_cmp a b) h) (lt-Less (entry_cmp b c) k))

-- no entry is before itself
pub before_entry-itself : (a : Entry) → is_before_entry a a ≡ false
unfolding is_before_entry
before_entry-itself a = ap is_lt (tied_itself entries_total a)

-- of two entries at most one is before the other
pub before_entry-asymmetric : (a b : Entry) → is_before_entry a b ≡ true → is_before_entry b a ≡ false
unfolding is_before_entry
before_entry-asymmetric a b h = ap is_lt (entries_total.antisymm b a ∙ ap ordering_reverse (lt-Less (entry_cmp a b) h))

-- the key of an event is of that event
pub node_of-key_of : (time : ℕ) (n : Node) → node_of (key_of time n) ≡ n
node_of-key_of time n = refl

-- the event and the time of a key give the key back
pub key_of-node_of : (k : Key) → key_of k.time (node_of k) ≡ k
key_of-node_of k = refl

-- keys that are the same are of one event
pub same-node_of : (a b : Key) → is_same a b ≡ true → node_of a ≡ node_of b
same-node_of a b h = ap node_of (same-is a b h)

-- keys are the same where their times and their events are
pub same-parts : (a b : Key) → is_same a b ≡ (nat_eq a.time b.time && is_same_node (node_of a) (node_of b))
unfolding is_same is_same_node
same-parts a b = refl
