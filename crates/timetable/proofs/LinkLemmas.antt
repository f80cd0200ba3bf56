-- What stands beside departures, renewed step by step.
use Rattle.state_laws.proofs.Words.{◌≡◌, ℕ, suc, ◌+◌, ◌-◌, ◌≤◌, Bool, true, false, not, ◌&&◌, ◌||◌, nat_eq, nat_le, List, [], ◌∷◌, Option, Some, refl, sym, ◌∙◌, ap, arith, All, list_any, option_map, option_map_or, slice_get, Network, State, Train, calls_of}
use Rattle.std.specs.Prelude.{nat_lt}
use Rattle.std.proofs.lemmas.Bool.Decides.{nat_tests}
use Rattle.train_nodes.specs.Calls.{has_call, label_before}
use Rattle.propagate.specs.declared.time_changes.TimeChange.{TimeChange}
use Rattle.dep_order.specs.declared.departure.Departure.{Departure}
use Rattle.dep_order.specs.declared.departure.Onward.{Onward}
use Rattle.dep_order.specs.Departing.{held}
use Rattle.dep_order.specs.Ordered.{KeepsRoom, Ordered, is_of_call, onward_at}
use Rattle.timetable.specs.Linking.{AreRenewed, Renewing, gone_on, used_labels, with_arrival, with_arrivals, with_call_linked, with_labels_linked, with_made_linked}
use Rattle.timetable.proofs.Lines.{after-none}

-- what is left to be done gives what all gives
pub record AreRenewedTo (left whole : Renewing) (old now : Ordered) : Type 0 where
  pub onwards : (n : ℕ) (d : Departure) → held old.entries n ≡ Some d → left d (onward_at now n) ≡ whole d (onward_at old n)
  pub departures : now.departures ≡ old.departures
  pub entries : now.entries ≡ old.entries
  pub used : now.used ≡ old.used
  pub room : KeepsRoom old now

pub room-same : (o : Ordered) → KeepsRoom o o
room-same o = record { labels = refl; spare_trains = refl; spare_calls = refl }

pub room-then : (a b c : Ordered) → KeepsRoom a b → KeepsRoom b c → KeepsRoom a c
room-then a b c f g = record { labels = g.labels ∙ f.labels; spare_trains = g.spare_trains ∙ f.spare_trains; spare_calls = g.spare_calls ∙ f.spare_calls }

pub none-renewed : (whole : Renewing) (o : Ordered) → AreRenewedTo whole whole o o
none-renewed whole o = record { onwards = λ n d h. refl; departures = refl; entries = refl; used = refl; room = room-same o }

pub all-renewed : (whole left : Renewing) (a b : Ordered) → ((d : Departure) (o : Onward) → left d o ≡ o) → AreRenewedTo left whole a b → AreRenewed whole a b
all-renewed whole left a b done h = record { onwards = λ n d there. sym (done d (onward_at b n)) ∙ h.onwards n d there; departures = h.departures; entries = h.entries; used = h.used; room = h.room }

pub renewed-more : (left f rest whole : Renewing) (a b c : Ordered) → ((d : Departure) (o : Onward) → left d o ≡ rest d (f d o)) → AreRenewedTo left whole a b → AreRenewed f b c → AreRenewedTo rest whole a c
renewed-more left f rest whole a b c splits h one = record {
  onwards = λ n d there. ap (rest d) (one.onwards n d (ap (λ es. held es n) h.entries ∙ there)) ∙ sym (splits d (onward_at b n)) ∙ h.onwards n d there;
  departures = one.departures ∙ h.departures;
  entries = one.entries ∙ h.entries;
  used = one.used ∙ h.used;
  room = room-then a b c h.room one.room;
}

pub renewed-pass : (left rest whole : Renewing) (a b : Ordered) → ((d : Departure) (o : Onward) → left d o ≡ rest d o) → AreRenewedTo left whole a b → AreRenewedTo rest whole a b
renewed-pass left rest whole a b same h = record {
  onwards = λ n d there. sym (same d (onward_at b n)) ∙ h.onwards n d there;
  departures = h.departures;
  entries = h.entries;
  used = h.used;
  room = h.room;
}

pub renewed-then : (f g h : Renewing) (a b c : Ordered) → ((d : Departure) (o : Onward) → h d o ≡ g d (f d o)) → AreRenewed f a b → AreRenewed g b c → AreRenewed h a c
renewed-then f g h a b c joins first then = record {
  onwards = λ n d there. then.onwards n d (ap (λ es. held es n) first.entries ∙ there) ∙ ap (g d) (first.onwards n d there) ∙ sym (joins d (onward_at a n));
  departures = then.departures ∙ first.departures;
  entries = then.entries ∙ first.entries;
  used = then.used ∙ first.used;
  room = room-then a b c first.room then.room;
}

-- linked calls
module _ (nw : Network) (st : State) (es : List (Option Departure)) where
  going-twice : (t l : ℕ) (o : Onward) → gone_on nw st es t l (gone_on nw st es t l o) ≡ gone_on nw st es t l o
  going-twice t l o = grind arith

  labels-empty : (t first : ℕ) (d : Departure) (o : Onward) → with_labels_linked nw st es t first first d o ≡ o
  labels-empty t first d o = grind (arith, nat_tests)

  labels-split : (t first l : ℕ) (d : Departure) (o : Onward) → first ≤ l → with_labels_linked nw st es t first (l + 1) d o ≡ with_call_linked nw st es t l d (with_labels_linked nw st es t first l d o)
  labels-split t first l d o le = grind (arith, nat_tests)

  -- a departure whose call is linked goes on as its train does, and what stands beside all others stays
  pub made-linked : (t from count : ℕ) (d : Departure) (o : Onward) → (nat_eq d.key.train t && (nat_eq d.key.label from || (nat_le (used_labels st t - count) d.key.label && nat_lt d.key.label (used_labels st t)))) ≡ true → with_made_linked nw st es t from count d o ≡ gone_on nw st es d.key.train d.key.label o
  made-linked t from count d o h = grind (arith, nat_tests, h, going-twice d.key.train d.key.label o)

  pub made-passed : (t from count : ℕ) (d : Departure) (o : Onward) → (nat_eq d.key.train t && (nat_eq d.key.label from || (nat_le (used_labels st t - count) d.key.label && nat_lt d.key.label (used_labels st t)))) ≡ false → with_made_linked nw st es t from count d o ≡ o
  made-passed t from count d o h = grind (arith, nat_tests, h)

  pub labels-linked : (t : ℕ) (d : Departure) (o : Onward) → (nat_eq d.key.train t && nat_lt d.key.label (used_labels st t)) ≡ true → with_labels_linked nw st es t 0 (used_labels st t) d o ≡ gone_on nw st es d.key.train d.key.label o
  labels-linked t d o h = grind (arith, nat_tests, h)

  pub labels-passed : (t : ℕ) (d : Departure) (o : Onward) → (nat_eq d.key.train t && nat_lt d.key.label (used_labels st t)) ≡ false → with_labels_linked nw st es t 0 (used_labels st t) d o ≡ o
  labels-passed t d o h = grind (arith, nat_tests, h)

  -- linking leaves the time of the arrival
  pub labels-arrival : (t first end : ℕ) (d : Departure) (o : Onward) → (with_labels_linked nw st es t first end d o).arrival ≡ o.arrival
  labels-arrival t first end d o = grind arith

  pub made-arrival : (t from count : ℕ) (d : Departure) (o : Onward) → (with_made_linked nw st es t from count d o).arrival ≡ o.arrival
  made-arrival t from count d o = grind arith

none-linked : (nw : Network) (st : State) (es : List (Option Departure)) (t l : ℕ) (d : Departure) (o : Onward) → has_call st t l ≡ false → with_call_linked nw st es t l d o ≡ o
none-linked nw st es t l d o none = grind (arith, after-none (calls_of st t) l none)

-- a call that is not there is not linked
pub linked-none : (nw : Network) (st : State) (t l : ℕ) (o : Ordered) → has_call st t l ≡ false → AreRenewed (with_call_linked nw st o.entries t l) o o
linked-none nw st t l o none = record { onwards = λ n d h. sym (none-linked nw st o.entries t l d (onward_at o n) none); departures = refl; entries = refl; used = refl; room = room-same o }

module _ (nw : Network) (st : State) (t first : ℕ) where
  pub linked-begin : (o : Ordered) → AreRenewed (with_labels_linked nw st o.entries t first first) o o
  linked-begin o = record { onwards = λ n d h. sym (labels-empty nw st o.entries t first d (onward_at o n)); departures = refl; entries = refl; used = refl; room = room-same o }

  pub linked-more : (l : ℕ) (a b c : Ordered) → first ≤ l → AreRenewed (with_labels_linked nw st a.entries t first l) a b → AreRenewed (with_call_linked nw st b.entries t l) b c → AreRenewed (with_labels_linked nw st a.entries t first (l + 1)) a c
  linked-more l a b c le h one =
      renewed-then (with_labels_linked nw st a.entries t first l) (with_call_linked nw st b.entries t l) (with_labels_linked nw st a.entries t first (l + 1)) a b c (λ d o. rw h.entries (labels-split nw st a.entries t first l d o le)) h one

  pub linked-with : (from count : ℕ) (a b c : Ordered) → first ≡ used_labels st t - count → AreRenewed (with_call_linked nw st a.entries t from) a b → AreRenewed (with_labels_linked nw st b.entries t first (used_labels st t)) b c → AreRenewed (with_made_linked nw st a.entries t from count) a c
  linked-with from count a b c e one h =
      renewed-then (with_call_linked nw st a.entries t from) (with_labels_linked nw st b.entries t first (used_labels st t)) (with_made_linked nw st a.entries t from count) a b c (λ d o. rw (one.entries, e) refl) one h

  -- how many labels the train has used, as they are read
  pub used-is : (n : ℕ) → option_map (λ (t : Train). t.next_label) (slice_get st.trains t) ≡ Some n → used_labels st t ≡ n
  used-is n h = grind (arith, h)

-- noted arrivals
module _ (st : State) where
  -- the arrival of a change stands beside the departure
  abbrev pub is_noted_at : Departure → TimeChange → Bool
  is_noted_at d r = not r.key.dep && option_map_or (λ before. is_of_call r.key.train before d) (label_before (calls_of st r.key.train) r.key.label) false

  one-noted : (t l time : ℕ) (d : Departure) (o : Onward) → option_map_or (λ before. is_of_call t before d) (label_before (calls_of st t) l) false ≡ true → with_arrival st t l time d o ≡ record o { arrival = time }
  one-noted t l time d o h = grind arith

  one-passed : (t l time : ℕ) (d : Departure) (o : Onward) → option_map_or (λ before. is_of_call t before d) (label_before (calls_of st t) l) false ≡ false → with_arrival st t l time d o ≡ o
  one-passed t l time d o h = grind arith

  pub arrivals-none : (rs : List TimeChange) (d : Departure) (o : Onward) → list_any (is_noted_at d) rs ≡ false → with_arrivals st rs d o ≡ o
  arrivals-none [] d o h = refl
  arrivals-none (r ∷ rs) d o h = grind (arith, one-passed r.key.train r.key.label r.is d o, arrivals-none rs d o)

  arrivals-done : (rs : List TimeChange) (d : Departure) (o : Onward) (time : ℕ) → All (λ r. is_noted_at d r ≡ true → r.is ≡ time) rs → o.arrival ≡ time → with_arrivals st rs d o ≡ o
  arrivals-done [] d o time h is = refl
  arrivals-done (r ∷ rs) d o time h is = grind (arith, h 0 r (omega arith), one-noted r.key.train r.key.label r.is d o, one-passed r.key.train r.key.label r.is d o, arrivals-done rs d o time (λ i w l. h (suc i) w (omega arith)))

  pub arrivals-some : (rs : List TimeChange) (d : Departure) (o : Onward) (time : ℕ) → All (λ r. is_noted_at d r ≡ true → r.is ≡ time) rs → list_any (is_noted_at d) rs ≡ true → with_arrivals st rs d o ≡ record o { arrival = time }
  arrivals-some [] d o time h any = absurd (cc)
  arrivals-some (r ∷ rs) d o time h any = grind (arith, h 0 r (omega arith), one-noted r.key.train r.key.label r.is d o, one-passed r.key.train r.key.label r.is d o, arrivals-done rs d (record o { arrival = time }) time (λ i w l. h (suc i) w (omega arith)), arrivals-some rs d o time (λ i w l. h (suc i) w (omega arith)))
