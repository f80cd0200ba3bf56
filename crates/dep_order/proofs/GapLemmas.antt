-- The search from both ends of a bucket for the two departures between which another belongs.
use Rattle.dep_order.proofs.Words.{◌≡◌, ◌≢◌, ◌<◌, ℕ, Some, true, false, sym, ◌∙◌, ap, subst, length, refl, Bucket, Cold, Departure, Hot, Lists, cold_part, hot_part, AreKept, IsNewKey, IsNextIn, IsPreviousIn, IsReached, bucket_count, bucket_of, entries_of, leaves_after, leaves_before, nobody, slot_at, stored_in}
use Rattle.dep_order.specs.Gaps.{IsBeside, IsBetween, IsFollowed}
use Rattle.dep_order.specs.declared.gap.Ends.{Ends}
use Rattle.dep_order.proofs.OrderLemmas.{after-strict, before-strict}
use Rattle.dep_order.proofs.ReachLemmas.{bucket-empty, gap-beside, gap-empty, left, left-falls, reach-first, reach-gap, reach-held, reach-next, reach-some}
use Rattle.dep_order.proofs.StoredLemmas.{IsBucket, nobody-none, read, within}

module _ (l : Lists) (b : ℕ) (d : Departure) (k : AreKept l) (new : IsNewKey (entries_of l) d.key) where
  -- a walk from the first on, and one from the last back, which have not come past the gap
  abbrev pub IsFront : ℕ → Type 0
  IsFront n = IsReached leaves_before (bucket_of (bucket_count l)) (entries_of l) b (leaves_before d) n

  abbrev pub IsBack : ℕ → Type 0
  IsBack n = IsReached leaves_after (bucket_of (bucket_count l)) (entries_of l) b (leaves_after d) n

  pub empty-gap : (x : Bucket) → IsBucket l b x → x.first ≡ nobody → IsNextIn l b (Some d) x.first × IsPreviousIn l b (Some d) nobody
  empty-gap x is end =
      let by = bucket_of (bucket_count l) in
      let es = entries_of l in
      let none = nobody-none l k in
      let gone = bucket-empty leaves_before before-strict by es b none (rw end at is.first) in
      (rw end (gap-empty leaves_before before-strict by es b d none gone), gap-empty leaves_after after-strict by es b d none gone)

  pub both-begin : (x y : Bucket) → IsBucket l b x → IsBucket l b y → x.first ≢ nobody → IsFront x.first × IsBack y.last × (y.last ≢ nobody)
  both-begin x y is last some =
      let by = bucket_of (bucket_count l) in
      let es = entries_of l in
      let front = reach-first leaves_before before-strict by es b (λ e. true) x.first is.first in
      let f = reach-held leaves_before before-strict by es b (λ e. true) x.first front some in
      let any = reach-first leaves_after after-strict by es b (λ e. true) y.last last.last in (
        reach-first leaves_before before-strict by es b (leaves_before d) x.first is.first,
        reach-first leaves_after after-strict by es b (leaves_after d) y.last last.last,
        reach-some leaves_after after-strict by es b (λ e. true) y.last x.first f.0 (nobody-none l k) any f.1 f.2 refl,
      )

  pub front-within : (n : ℕ) → IsFront n → n ≢ nobody → n < length l.slots
  front-within n r some =
      let f = reach-held leaves_before before-strict (bucket_of (bucket_count l)) (entries_of l) b (leaves_before d) n r some in within l n f.0 f.1

  pub back-within : (n : ℕ) → IsBack n → n ≢ nobody → n < length l.slots
  back-within n r some =
      let f = reach-held leaves_after after-strict (bucket_of (bucket_count l)) (entries_of l) b (leaves_after d) n r some in within l n f.0 f.1

  pub front-gap : (n : ℕ) → IsFront n → n ≢ nobody → leaves_before d (stored_in (slot_at l.slots n)) ≡ true → IsNextIn l b (Some d) n × IsPreviousIn l b (Some d) (slot_at l.slots n).before
  front-gap n r some h =
      let s = slot_at l.slots n in
      let by = bucket_of (bucket_count l) in
      let es = entries_of l in
      let f = reach-held leaves_before before-strict by es b (leaves_before d) n r some in
      let x = read l n f.0 k f.1 in
      let next = reach-gap leaves_before before-strict by es b d f.0 n r f.1 (ap (leaves_before d) (sym x.departure) ∙ h) in
      (next, gap-beside leaves_before before-strict by es b d f.0 n s.before new next f.1 (subst (λ c. IsPreviousIn l c (Some f.0) s.before) f.2 x.previous))

  pub back-gap : (n : ℕ) → IsBack n → n ≢ nobody → leaves_before (stored_in (slot_at l.slots n)) d ≡ true → IsNextIn l b (Some d) (slot_at l.slots n).after × IsPreviousIn l b (Some d) n
  back-gap n r some h =
      let s = slot_at l.slots n in
      let by = bucket_of (bucket_count l) in
      let es = entries_of l in
      let f = reach-held leaves_after after-strict by es b (leaves_after d) n r some in
      let x = read l n f.0 k f.1 in
      let last = reach-gap leaves_after after-strict by es b d f.0 n r f.1 (ap (leaves_after d) (sym x.departure) ∙ h) in
      (gap-beside leaves_after after-strict by es b d f.0 n s.after new last f.1 (subst (λ c. IsNextIn l c (Some f.0) s.after) f.2 x.next), last)

  -- what is read of the two slots to which the walks have come
  pub front-at : (n : ℕ) (e : Departure) (c : Cold) → e ≡ stored_in (slot_at l.slots n) → c ≡ cold_part (slot_at l.slots n) → IsFront n → n ≢ nobody → leaves_before d e ≡ true → IsNextIn l b (Some d) n × IsPreviousIn l b (Some d) c.before
  front-at n e c own its r some h =
      let x = front-gap n r some (ap (leaves_before d) (sym own) ∙ h) in
      (x.0, subst (λ (c : Cold). IsPreviousIn l b (Some d) c.before) (sym its) x.1)

  pub back-at : (n : ℕ) (e : Departure) (t : Hot) → e ≡ stored_in (slot_at l.slots n) → t ≡ hot_part (slot_at l.slots n) → IsBack n → n ≢ nobody → leaves_before e d ≡ true → IsNextIn l b (Some d) t.after × IsPreviousIn l b (Some d) n
  back-at n e t own its r some h =
      let x = back-gap n r some (ap (leaves_after d) (sym own) ∙ h) in
      (subst (λ (t : Hot). IsNextIn l b (Some d) t.after) (sym its) x.0, x.1)

  -- where neither has come to the gap, both go on
  pub both-further : (n p : ℕ) → IsFront n → n ≢ nobody → IsBack p → p ≢ nobody → leaves_before d (stored_in (slot_at l.slots n)) ≡ false → leaves_before (stored_in (slot_at l.slots p)) d ≡ false → IsFront (slot_at l.slots n).after × ((slot_at l.slots n).after ≢ nobody) × IsBack (slot_at l.slots p).before × ((slot_at l.slots p).before ≢ nobody) × (left leaves_before (entries_of l) (slot_at l.slots n).after < left leaves_before (entries_of l) n)
  both-further n p front some back last h g =
      let s = slot_at l.slots n in
      let t = slot_at l.slots p in
      let by = bucket_of (bucket_count l) in
      let es = entries_of l in
      let none = nobody-none l k in
      let f = reach-held leaves_before before-strict by es b (leaves_before d) n front some in
      let e = reach-held leaves_after after-strict by es b (leaves_after d) p back last in
      let x = read l n f.0 k f.1 in
      let y = read l p e.0 k e.1 in
      let early = ap (leaves_before d) (sym x.departure) ∙ h in
      let late = ap (leaves_after d) (sym y.departure) ∙ g in
      let next = subst (λ c. IsNextIn l c (Some f.0) s.after) f.2 x.next in
      let previous = subst (λ c. IsPreviousIn l c (Some e.0) t.before) e.2 y.previous in
      let on = reach-next leaves_before before-strict by es b (leaves_before d) n s.after f.0 front f.1 early next in
      let off = reach-next leaves_after after-strict by es b (leaves_after d) p t.before e.0 back e.1 late previous in (
        on,
        reach-some leaves_before before-strict by es b (leaves_before d) s.after p e.0 none on e.1 e.2 (before-strict.either e.0 d (new p e.0 e.1) late),
        off,
        reach-some leaves_after after-strict by es b (leaves_after d) t.before n f.0 none off f.1 f.2 (after-strict.either f.0 d (new n f.0 f.1) early),
        left-falls leaves_before before-strict by es b n s.after f.0 f.1 next,
      )

  pub further-at : (n p : ℕ) (e f : Departure) (t : Hot) (c : Cold) → e ≡ stored_in (slot_at l.slots n) → f ≡ stored_in (slot_at l.slots p) → t ≡ hot_part (slot_at l.slots n) → c ≡ cold_part (slot_at l.slots p) → IsFront n → n ≢ nobody → IsBack p → p ≢ nobody → leaves_before d e ≡ false → leaves_before f d ≡ false → IsFront t.after × (t.after ≢ nobody) × IsBack c.before × (c.before ≢ nobody) × (left leaves_before (entries_of l) t.after < left leaves_before (entries_of l) n)
  further-at n p e f t c own its hot cold front some back last h g =
      let x = both-further n p front some back last (ap (leaves_before d) (sym own) ∙ h) (ap (leaves_after d) (sym its) ∙ g) in
      let after : (slot_at l.slots n).after ≡ t.after = ap (λ (t : Hot). t.after) (sym hot) in
      let before : (slot_at l.slots p).before ≡ c.before = ap (λ (c : Cold). c.before) (sym cold) in
      (subst IsFront after x.0, subst (λ n. n ≢ nobody) after x.1, subst IsBack before x.2, subst (λ n. n ≢ nobody) before x.3, subst (λ m. left leaves_before (entries_of l) m < left leaves_before (entries_of l) n) after x.4)

  -- one from which the walk back went on comes after the departure
  pub followed-at : (p : ℕ) (f : Departure) → f ≡ stored_in (slot_at l.slots p) → IsBack p → p ≢ nobody → leaves_before f d ≡ false → IsFollowed l d b
  followed-at p f its back last g =
      let e = reach-held leaves_after after-strict (bucket_of (bucket_count l)) (entries_of l) b (leaves_after d) p back last in
      let y = read l p e.0 k e.1 in
      let late = ap (leaves_after d) (sym y.departure ∙ sym its) ∙ g in
      record { number = p; later = e.0; there = e.1; mine = e.2; is = before-strict.either e.0 d (new p e.0 e.1) late }

-- a walk that begins behind a departure that comes before another
pub guided-at : (l : Lists) (d : Departure) (ends : Ends) (n : ℕ) (t : Hot) → AreKept l → IsBetween l d ends → IsFollowed l d ends.bucket → IsBeside l d ends.bucket n → t ≡ hot_part (slot_at l.slots n) → IsBetween l d (record ends { front = t.after })
guided-at l d ends n t k between followed beside its =
    let by = bucket_of (bucket_count l) in
    let es = entries_of l in
    let e = beside.sooner in
    let x = read l n e k beside.there in
    let own : (slot_at l.slots n).after ≡ t.after = ap (λ (t : Hot). t.after) (sym its) in
    let next = subst (λ m. IsNextIn l ends.bucket (Some e) m) own (subst (λ c. IsNextIn l c (Some e) (slot_at l.slots n).after) beside.mine x.next) in
    let reached : IsReached leaves_before by es ends.bucket (leaves_before d) t.after = record {
      ends = next.ends;
      mine = λ f at. (next.there f at).0;
      rest = λ j f at mine h. next.rest j f at mine (before-strict.trans e d f beside.is h);
    } in
    record {
      forward = reached;
      front_is = reach-some leaves_before before-strict by es ends.bucket (leaves_before d) t.after followed.number followed.later (nobody-none l k) reached followed.there followed.mine followed.is;
      backward = between.backward;
      back_is = between.back_is;
    }

pub beside-within : (l : Lists) (d : Departure) (b n : ℕ) → IsBeside l d b n → n < length l.slots
beside-within l d b n x = within l n x.sooner x.there

pub front-read : (l : Lists) (d : Departure) (ends : Ends) → IsBetween l d ends → ends.front < length l.slots
front-read l d ends x =
    let f = reach-held leaves_before before-strict (bucket_of (bucket_count l)) (entries_of l) ends.bucket (leaves_before d) ends.front x.forward x.front_is in within l ends.front f.0 f.1
