-- What departures by number and the numbers of their calls tell together.
use Rattle.dep_order.proofs.Words.{◌≡◌, ◌<◌, ◌≤◌, ◌+◌, ℕ, inl, inr, List, Option, None, Some, true, false, nat_eq, ◌&&◌, refl, sym, ◌∙◌, ap, arith, nat_tests, cases_Bool, cases_eq, length, length-set, set, slice_get_within, All, get_or, Departure, Key, Onward, blank_onward, HaveDistinctCalls, IsNewCall, IsNewKey, departures_in_order, held, is_of_call, number_of}
use Rattle.std.specs.Prelude.{if◌then◌else◌}
use Rattle.dep_order.specs.declared.order.DepartureOrder.TheInside.{Inside}
use Rattle.dep_order.specs.CallNumbering.{StoredNumbers, number_at}
use Rattle.dep_order.specs.Held.{Numbered}
use Rattle.dep_order.specs.Inside.{IsOrdered}
use Rattle.mt_base.specs.Order.{is_same}
use Rattle.mt_base.proofs.KeyLemmas.{same-itself}
use Rattle.dep_order.proofs.ChangeLemmas.{held-else, held-set}
use Rattle.dep_order.proofs.LinkLemmas.{some-or-none}
use Rattle.dep_order.proofs.NumberLemmas.{call-is, none-number, of-call, one-number}
use Rattle.dep_order.proofs.OneOrder.{all-in}
use Rattle.dep_order.proofs.PlaceLemmas.{listed}
use Rattle.dep_order.proofs.ReachLemmas.{held-get}

-- no departure in the order is of a call, so none that has a number is
pub call-new : (es : List (Option Departure)) (k : Key) → All (λ d. is_of_call k.train k.label d ≡ false) (departures_in_order es) → IsNewCall es k
call-new es k none = λ i d at train label.
    let other = all-in (λ d. is_of_call k.train k.label d ≡ false) (departures_in_order es) none d (listed es i d at) in
    let own = of-call k.train k.label d train label in
    cc

pub held-within : (es : List (Option Departure)) (n : ℕ) (d : Departure) → held es n ≡ Some d → n < length es
held-within es n d h = slice_get_within es n (Some d) (held-get es n d h)

module _ (a : Inside) (h : IsOrdered a) where
  -- the number of the departure of a call is the one that is noted
  pub noted-none : (t l : ℕ) → number_at a.numbers t l ≡ None → (i : ℕ) (d : Departure) → held a.numbered.entries i ≡ Some d → is_of_call t l d ≡ false
  noted-none t l none i d at =
      elim (cases_Bool (is_of_call t l d)) [
        | inl own ↦ (let c = call-is t l d own in let k = rw (c.0, c.1) at (h.noted i d at) in absurd (cc))
        | inr other ↦ other
      ]

  pub noted-other : (t l n : ℕ) → number_at a.numbers t l ≡ Some n → ((d : Departure) → held a.numbered.entries n ≡ Some d → is_of_call t l d ≡ false) → (i : ℕ) (d : Departure) → held a.numbered.entries i ≡ Some d → is_of_call t l d ≡ false
  noted-other t l n is none i d at =
      elim (cases_Bool (is_of_call t l d)) [
        | inl own ↦ (
            let c = call-is t l d own in
            let k = rw (c.0, c.1) at (h.noted i d at) in
            let same : i ≡ n = cc in
            none d (rw (← same) at))
        | inr other ↦ other
      ]

  -- no two departures are of one call
  pub noted-calls : HaveDistinctCalls a.numbered.entries
  noted-calls = λ i j d e at there train label.
      let one = h.noted i d at in
      let other = rw (← train, ← label) at (h.noted j e there) in
      cc

  -- the number of the departure of a call
  pub number-none : (t l : ℕ) → None ≡ number_at a.numbers t l → None ≡ number_of a.numbered.entries t l
  number-none t l none = sym (none-number a.numbered.entries t l (noted-none t l (sym none)))

  pub number-gone : (t l n : ℕ) → Some n ≡ number_at a.numbers t l → None ≡ held a.numbered.entries n → None ≡ number_of a.numbered.entries t l
  number-gone t l n is gone = sym (none-number a.numbered.entries t l (noted-other t l n (sym is) (λ d at. absurd (cc))))

  pub number-other : (t l n : ℕ) (d : Departure) → Some n ≡ number_at a.numbers t l → Some d ≡ held a.numbered.entries n → is_of_call t l d ≡ false → None ≡ number_of a.numbered.entries t l
  number-other t l n d is there other = sym (none-number a.numbered.entries t l (noted-other t l n (sym is) (λ e at. let same : d ≡ e = cc in rw (← same) other)))

  pub number-there : (t l n : ℕ) (d : Departure) → Some d ≡ held a.numbered.entries n → is_of_call t l d ≡ true → Some n ≡ number_of a.numbered.entries t l
  number-there t l n d there own = sym (one-number a.numbered.entries t l n d noted-calls (sym there) own)

  -- no other departure has a key whose number has another
  pub key-other : (k : Key) (n : ℕ) (e : Departure) → Some n ≡ number_at a.numbers k.train k.label → Some e ≡ held a.numbered.entries n → is_same e.key k ≡ false → IsNewKey a.numbered.entries k
  key-other k n e is there other i d at same =
      let one = rw same at (h.noted i d at) in
      let own : i ≡ n = cc in
      let here = rw own at at in
      let it : d ≡ e = cc in
      let passes = rw (← it, same, same-itself k) at other in
      cc

  none-kept : (b : Numbered) → ((i : ℕ) (d : Departure) → held b.entries i ≡ Some d → (e : Departure) × (held a.numbered.entries i ≡ Some e) × (d.key ≡ e.key)) → (n : ℕ) → held a.numbered.entries n ≡ None → held b.entries n ≡ None
  none-kept b was n free =
      elim (some-or-none (held b.entries n)) [ inl f ↦ (let r = was n f.0 f.1 in let k = r.1 in absurd (cc)) | inr gone ↦ gone ]

  -- fewer departures, with their keys
  pub fewer-ordered : (b : Numbered) → length b.entries ≡ length a.numbered.entries → ((i : ℕ) (d : Departure) → held b.entries i ≡ Some d → (e : Departure) × (held a.numbered.entries i ≡ Some e) × (d.key ≡ e.key)) → IsOrdered (record a { numbered = b })
  fewer-ordered b long was = record {
    noted = λ i d at. let r = was i d at in rw r.2 (h.noted i r.0 r.1);
    within = rw long h.within;
    unused = λ n low. none-kept b was n (h.unused n low);
  }

  -- one departure is taken out
  pub taken-ordered : (b : Numbered) (n : ℕ) → n < length a.numbered.entries → b.entries ≡ set a.numbered.entries n None → IsOrdered (record a { numbered = b })
  taken-ordered b n low e =
      fewer-ordered b (ap length e ∙ length-set a.numbered.entries n None) (rw e (λ i d at. elim (cases_eq i n) [
        | inl own ↦ (let free = held-set a.numbered.entries n None low in let k = rw own at at in absurd (cc))
        | inr apart ↦ (d, sym (held-else a.numbered.entries n i None apart) ∙ at, refl)
      ]))

  -- one departure is another with its key
  pub moved-ordered : (b : Numbered) (n : ℕ) (d e : Departure) → n < length a.numbered.entries → held a.numbered.entries n ≡ Some d → e.key ≡ d.key → b.entries ≡ set a.numbered.entries n (Some e) → IsOrdered (record a { numbered = b })
  moved-ordered b n d e low is own same =
      fewer-ordered b (ap length same ∙ length-set a.numbered.entries n (Some e)) (rw same (λ i f at. elim (cases_eq i n) [
        | inl here ↦ (
            let now = held-set a.numbered.entries n (Some e) low in
            let k = rw here at at in
            let it : e ≡ f = cc in
            (d, rw here is, rw (← it) own))
        | inr apart ↦ (f, sym (held-else a.numbered.entries n i (Some e) apart) ∙ at, refl)
      ]))

  -- one more departure, whose number is noted
  pub put-ordered : (b : Numbered) (ns : StoredNumbers) (d : Departure) → a.used < length a.numbered.entries → IsNewCall a.numbered.entries d.key → b.entries ≡ set a.numbered.entries a.used (Some d) → ((u m : ℕ) → number_at ns u m ≡ (if nat_eq u d.key.train && nat_eq m d.key.label then Some a.used else number_at a.numbers u m)) → IsOrdered (record { numbered = b; numbers = ns; used = a.used + 1 })
  put-ordered b ns d low new e noted =
      let es = a.numbered.entries in
      let now = held-set es a.used (Some d) low in
      record {
        noted = rw e (λ i f at. elim (cases_eq i a.used) [
          | inl own ↦ (
              let k = rw own at at in
              let it : d ≡ f = cc in
              rw (← it, own) (noted d.key.train d.key.label ∙ grind (arith, nat_tests)))
          | inr apart ↦ (
              let was = sym (held-else es a.used i (Some d) apart) ∙ at in
              noted f.key.train f.key.label ∙ grind (arith, nat_tests, new i f was, h.noted i f was))
        ]);
        within = rw e (omega (arith, length-set es a.used (Some d)));
        unused = rw e (λ n above. held-else es a.used n (Some d) (λ own. omega arith) ∙ h.unused n (omega arith));
      }

  -- numbers are noted elsewhere as well
  pub noted-ordered : (ns : StoredNumbers) → ((t l n : ℕ) → number_at a.numbers t l ≡ Some n → number_at ns t l ≡ Some n) → IsOrdered (record a { numbers = ns })
  noted-ordered ns stays = record {
    noted = λ i d at. stays d.key.train d.key.label i (h.noted i d at);
    within = h.within;
    unused = h.unused;
  }

-- what stands beside a number is one of all
pub past-at : (n : ℕ) (os : List Onward) (i : ℕ) → All (λ (o : Onward). o.next ≤ n) os → i < length os → (get_or os i blank_onward).next ≤ n
past-at n os i h low = h i blank_onward low
