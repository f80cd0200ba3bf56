-- From the departures that a message left to those of the state after it, by number.
use Rattle.timetable.proofs.Words.{◌≡◌, ◌&&◌, ℕ, ◌⊎◌, ◌*◌, ◌≤◌, true, false, not, List, Some, filter, length, refl, sym, ◌∙◌, ap, arith, inl, inr, option_map}
use Rattle.timetable.proofs.Words.{Contains, Contains-filter, All, All-contains, AllPairs, Key, Message, Network, Option, State, Event, events, is_live_key, live_keys, IsTrain, IsPrepared, Departure, TimeChange, live_departures, departing, leaves_before, false_from_ne_true, any-there, and_parts, same-is, is_same, IsDeparture, AreLiveDepartures, is_of_none}
use Rattle.dep_order.specs.Departing.{departures_in_order, held}
use Rattle.dep_order.specs.Ordered.{KeepsRoom, Ordered, onward_at}
use Rattle.timetable.specs.Applied.{IsApplied, gone_between}
use Rattle.timetable.specs.Carried.{AreNumbersKept, IsCarried, IsCarriedTo, IsHeldStill, IsPutIn}
use Rattle.timetable.specs.Numbers.{AreLeft, AreMoved, GotNumber, HadNumber}
use Rattle.timetable.proofs.{Changed.live-key, Departing.departs-each, Departing.departs-in, Moving.left-live, Numbers.held-listed, Numbers.listed-held}

-- what stands beside a number does not change with the departures
beside : (a b : Ordered) → b.onwards ≡ a.onwards → (n : ℕ) → onward_at b n ≡ onward_at a n
beside a b h n = rw h refl

module _ {nw : Network} {new : State} {m : Message} {noted : Option ℕ} {changes : List TimeChange} {mid now : Ordered} (a : IsApplied nw new m noted changes mid) (moved : AreMoved mid now) (is : now.departures ≡ live_departures nw new) (all : now.departures ≡ departures_in_order now.entries) where
  trains : All IsTrain a.old.trains
  trains = a.step.valid.trains

  -- one that had a number before is among the live departures
  was-live : (n : ℕ) (d : Departure) → held a.before.entries n ≡ Some d → Contains (live_departures nw a.old) d
  was-live n d h = rw (← a.order.departures, a.order.entries) (held-listed a.before.entries n d h)

  now-live : (n : ℕ) (d : Departure) → held now.entries n ≡ Some d → Contains (live_departures nw new) d
  now-live n d h = rw (← is, all) (held-listed now.entries n d h)

  -- and stays where its key is live still
  stays-at : (n : ℕ) (d : Departure) → held a.before.entries n ≡ Some d → is_live_key (events new) d.key ≡ true → held mid.entries n ≡ Some d
  stays-at n d h live = a.numbers.stays n d h (left-live nw a.old new trains d (was-live n d h) ∙ live)

  -- the key of a departure that got a number was not live
  new-key : (n : ℕ) (d : Departure) → held now.entries n ≡ Some d → GotNumber mid n d → is_live_key (events a.old) d.key ≡ false
  new-key n d h got =
      false_from_ne_true _ (λ was.
      let u = any-there (λ u. u.live && is_same u.key d.key) (events a.old) was in
      let own = and_parts u.0.live (is_same u.0.key d.key) u.2 in
      let key = same-is u.0.key d.key own.1 in
      let l = All-contains (IsDeparture nw new) (live_departures nw new) d (departs-each nw new) (now-live n d h) in
      let there = rw (← a.order.departures, a.order.entries) at (departs-in nw a.old u.0 u.1 own.0 (rw key l.departs)) in
      let r = listed-held a.before.entries (departing nw a.old u.0.key) there in
      let live : is_live_key (events new) u.0.key ≡ true = rw key (live-key (events new) d.key (l.event, l.there, l.key, l.live)) in
      got.new_key r.0 (departing nw a.old u.0.key) (stays-at r.0 (departing nw a.old u.0.key) r.1 live) key)

  numbers-kept : AreNumbersKept a.old new a.before now
  numbers-kept = record {
    kept = λ n d h. elim (moved.kept n d h) [
      | inl had ↦ inl (record {
        departure = had.departure;
        held_before = a.numbers.left n had.departure had.held_before;
        key = had.key;
        onward = beside mid now moved.onwards n ∙ beside a.before mid a.numbers.onwards n;
      })
      | inr got ↦ inr (record { new = new-key n d h got; fresh = omega (arith, got.fresh, a.numbers.used) })
    ];
    stays = λ n d h live. moved.stays n d (stays-at n d h live);
    used = omega (arith, moved.used, a.numbers.used);
    lengths = moved.lengths ∙ a.numbers.lengths;
  }

  pub carried-on : IsCarriedTo nw new m noted changes now
  carried-on = record {
    old = a.old;
    times = a.times;
    before = a.before;
    carried = record { step = a.step; prepared = a.prepared; order_before = a.order; departures = is; numbers = numbers-kept };
    is_noted = a.is_noted;
    changes_are = a.changes_are;
  }
