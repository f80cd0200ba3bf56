-- The order of departures is strict and total, in either direction, and buckets follow it.
use Rattle.dep_order.proofs.Words.{◌≡◌, ◌≢◌, ◌<◌, ◌≤◌, ℕ, Bool, true, false, refl, sym, ap, arith, inl, inr, cases_Bool, Departure, leaves_before, leaves_after, departure_cmp, bucket_of, nat_tests, nat_le}
use Rattle.std.proofs.Common.{Ordering}
use Rattle.std.specs.declared.cmp.Ordering.TheVariants.{Less, Equal, Greater}
use Rattle.std.specs.Cmp.{IsTotalOrder}
use Rattle.std.specs.Ordering.{is_lt, nat_cmp, ordering_reverse, ordering_then}
use Rattle.std.proofs.lemmas.Cmp.{nat_cmp_total, on_total, then_total, tied_itself}
use Rattle.mt_base.specs.Order.{key_cmp}
use Rattle.mt_base.proofs.KeyLemmas.{exact_keys, keys_total}

pub departures_total : IsTotalOrder departure_cmp
departures_total =
    then_total (on_total (λ d. d.time) nat_cmp_total)
    (then_total (on_total (λ d. d.key) keys_total) (on_total (λ d. d.stop) nat_cmp_total))

-- of two departures with different keys one is before the other, and none is before itself
pub record IsStrict (lt : Departure → Departure → Bool) : Type 0 where
  pub trans : (a b c : Departure) → lt a b ≡ true → lt b c ≡ true → lt a c ≡ true
  pub itself : (a : Departure) → lt a a ≡ true → ⊥
  pub either : (a b : Departure) → a.key ≢ b.key → lt a b ≡ false → lt b a ≡ true

lt-Less : (o : Ordering) → is_lt o ≡ true → o ≡ Less
lt-Less Less h = refl
lt-Less Equal h = cc
lt-Less Greater h = cc

then-Equal : (a b : Ordering) → ordering_then a b ≡ Equal → (a ≡ Equal) × (b ≡ Equal)
then-Equal Less b h = absurd (cc)
then-Equal Equal b h = (refl, h)
then-Equal Greater b h = absurd (cc)

not-less : (o r : Ordering) → o ≡ ordering_reverse r → is_lt o ≡ false → (o ≡ Equal → ⊥) → is_lt r ≡ true
not-less o Less e h n = refl
not-less o Equal e h n = absurd (n e)
not-less o Greater e h n = cc

pub before-strict : IsStrict leaves_before
unfolding leaves_before
before-strict = record {
  trans = λ a b c h k. ap is_lt (departures_total.trans a b c (lt-Less (departure_cmp a b) h) (lt-Less (departure_cmp b c) k));
  itself = λ a h. let e = ap is_lt (tied_itself departures_total a) in cc;
  either = λ a b n h. not-less (departure_cmp a b) (departure_cmp b a) (departures_total.antisymm a b) h
      (λ e. n (exact_keys a.key b.key (then-Equal (key_cmp a.key b.key) _ (then-Equal (nat_cmp a.time b.time) _ e).1).0));
}

-- so is the order turned round
pub turn : (lt : Departure → Departure → Bool) → IsStrict lt → IsStrict (λ a b. lt b a)
turn lt s = record {
  trans = λ a b c h k. s.trans c b a k h;
  itself = s.itself;
  either = λ a b n h. s.either b a (λ e. n (sym e)) h;
}

pub after-strict : IsStrict leaves_after
after-strict = turn leaves_before before-strict

pub earlier-before : (a b : Departure) → a.time < b.time → leaves_before a b ≡ true
unfolding leaves_before
earlier-before a b l = let e : nat_cmp a.time b.time ≡ Less = grind (arith, nat_tests) in rw e refl

-- a departure is at no later time than one that it is before
pub before-time : (a b : Departure) → leaves_before a b ≡ true → a.time ≤ b.time
before-time a b h =
    elim (cases_Bool (nat_le a.time b.time)) [
      | inl t ↦ grind (arith, nat_tests)
      | inr f ↦ (let later = earlier-before b a (grind (arith, nat_tests)) in absurd (before-strict.itself a (before-strict.trans a b a h later)))
    ]

-- buckets follow the order
pub bucket-before : (count : ℕ) (a b : Departure) → bucket_of count a < bucket_of count b → leaves_before a b ≡ true
bucket-before count a b l = earlier-before a b (omega arith)
