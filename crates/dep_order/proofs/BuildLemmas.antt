-- Lists that are made, and copies of them.
use Rattle.dep_order.proofs.Words.{◌≡◌, ◌<◌, ◌≤◌, ◌^◌, ℕ, zero, suc, inl, inr, List, ◌∷◌, Option, None, refl, ◌∙◌, ap, arith, length, map, replicate, length-replicate, get_or, All, Bucket, Departure, Lists, Onward, held, AreKept, AreLinked, Bool, bucket_at, bucket_count, bucket_of, departure_in, leaves_after, leaves_before, entries_of, fresh_slot, next_in, onward_in, onwards_of, previous_in, nobody}

pub kept-same : (l r : Lists) → r.slots ≡ l.slots → r.buckets.items ≡ l.buckets.items → AreKept l → AreKept r
kept-same l r e f k =
    record {
      some = rw f k.some;
      few = rw e k.few;
      calls = rw e k.calls;
      nexts = rw (e, f) k.nexts;
      previous = rw (e, f) k.previous;
      past = rw e k.past;
    }

pub map-alike : {X Y : Type 0} (f : X → Y) (n : ℕ) (x : X) → map f (replicate n x) ≡ replicate n (f x)
map-alike f zero x = refl
map-alike f (suc n) x = ap (λ ys. f x ∷ ys) (map-alike f n x)

pub none-held : (n i : ℕ) → held (replicate n None) i ≡ None
none-held zero i = refl
none-held (suc n) zero = refl
none-held (suc n) (suc i) = none-held n i

-- buckets that are alike have the same first and last
read-alike : {X : Type 0} (x : X) → (n i : ℕ) → get_or (replicate n x) i x ≡ x
read-alike x zero i = refl
read-alike x (suc n) zero = refl
read-alike x (suc n) (suc i) = read-alike x n i

-- where there is no departure, nobody is linked with nobody
none-linked : (lt : Departure → Departure → Bool) (by : Departure → ℕ) (count : ℕ) (es : List (Option Departure)) (next : ℕ → ℕ → ℕ) → ((i : ℕ) → held es i ≡ None) → ((b : ℕ) → next b nobody ≡ nobody) → AreLinked lt by count es next
none-linked lt by count es next none end b i low (inl own) =
    let gone = none (next b i) in
    record {
      ends = λ h. ap (next b) own ∙ end b;
      there = λ d h. absurd (cc);
      rest = λ j d h. let free = none j in absurd (cc);
    }
none-linked lt by count es next none end b i low (inr at) = let gone = none i in let here = at.1 in absurd (cc)

read-all : {X : Type 0} (P : X → Type 0) (n : ℕ) (x : X) → P x → (i : ℕ) (d : X) → i < n → P (get_or (replicate n x) i d)
read-all P zero x p i d l = absurd (omega arith)
read-all P (suc n) x p zero d l = p
read-all P (suc n) x p (suc i) d l = read-all P n x p i d (omega arith)

alike-all : {X : Type 0} (P : X → Type 0) (n : ℕ) (x : X) → P x → All P (replicate n x)
alike-all P n x p = λ i d l. read-all P n x p i d (omega (arith, length-replicate n x))

pub empty-entries : (room : ℕ) → map departure_in (replicate room (fresh_slot room)) ≡ replicate room None
empty-entries room = map-alike departure_in room (fresh_slot room)

pub kept-empty : (l : Lists) (room count : ℕ) → room ≤ 2 ^ 22 → 0 < count → l.slots ≡ replicate room (fresh_slot room) → l.buckets.items ≡ replicate count (record { first = nobody; last = nobody }) → AreKept l
kept-empty l room count few some e f =
    let a : Bucket = record { first = nobody; last = nobody } in
    let s = fresh_slot room in
    let none : (i : ℕ) → held (entries_of l) i ≡ None = λ i. rw (e, empty-entries room) (none-held room i) in
    let at : (b : ℕ) → bucket_at l b ≡ a = λ b. rw f (read-alike a count b) in
    let onwards : onwards_of l ≡ replicate room (onward_in s) = rw e (map-alike onward_in room s) in
    let long : length l.slots ≡ room = rw e (length-replicate room s) in
    record {
      some = rw (f, length-replicate count a) some;
      few = rw long few;
      calls = λ i j d g h. let gone = none i in absurd (cc);
      nexts = none-linked leaves_before (bucket_of (bucket_count l)) (bucket_count l) (entries_of l) (next_in l) none (λ b. ap (λ (x : Bucket). x.first) (at b));
      previous = none-linked leaves_after (bucket_of (bucket_count l)) (bucket_count l) (entries_of l) (previous_in l) none (λ b. ap (λ (x : Bucket). x.last) (at b));
      past = rw (onwards, long) (alike-all (λ (o : Onward). o.next ≤ room) room (onward_in s) (omega arith));
    }
