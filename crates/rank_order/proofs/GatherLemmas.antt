-- The least of keys in order and of late marks, which are in order too, taken out of both.
use Rattle.std.proofs.Common.{All, ◌≡◌, ◌≤◌, ◌<◌, ◌||◌, [], ◌∷◌, ◌++◌, true, false, List, Bool, ℕ, suc, refl, sym, ◌∙◌, ap, subst, arith, length, drop, get_or, inl, inr, IfSome, IfNone, Option, None, Some}
use Rattle.std.specs.List.{insert}
use Rattle.std.proofs.lemmas.Bool.{cases_Bool, or_left}
use Rattle.std.proofs.lemmas.List.Elements.{All-append, All-cons, All-weaker}
use Rattle.std.proofs.lemmas.List.Edits.{length-insert}
use Rattle.mt_base.specs.declared.keys.Key.{Key}
use Rattle.mt_base.specs.Order.{is_before, is_same}
use Rattle.mt_base.proofs.KeyLemmas.{before-trans, same-is}
use Rattle.rank_order.specs.InOrder.{in_order, IsPlace}
use Rattle.rank_order.specs.Marked.{Ascends, has_key}
use Rattle.rank_order.proofs.InsertLemmas.{RisesTo, higher, insert-ascends, insert-marks}
use Rattle.rank_order.proofs.OrderLemmas.{append-has, in_order-has, no-more, one-more, own-again, still-fits, taken}

or-assoc : (a b c : Bool) → ((a || b) || c) ≡ (a || (b || c))
or-assoc true b c = refl
or-assoc false b c = refl

or-swap : (a b c : Bool) → (a || (b || c)) ≡ (b || (a || c))
or-swap true true c = refl
or-swap true false c = refl
or-swap false true c = refl
or-swap false false c = refl

or-both : (a b c : Bool) → ((a || b) || (a || c)) ≡ (a || (b || c))
or-both true b c = refl
or-both false b c = refl

-- a list that is not empty begins with its first
pub begins : (xs : List Key) (x : Key) → 0 < length xs → x ≡ get_or xs 0 x → xs ≡ x ∷ drop 1 xs
begins [] x l e = absurd (omega arith)
begins (y ∷ ys) x l e = ap (λ z. z ∷ ys) (sym e)

pub ascends-rest : (xs : List Key) → Ascends xs → Ascends (drop 1 xs)
ascends-rest [] up = up
ascends-rest (x ∷ xs) up = λ i j d l m. up (suc i) (suc j) d (omega arith) (omega arith)

pub rest-after : (xs : List Key) (x : Key) → Ascends xs → xs ≡ x ∷ drop 1 xs → All (RisesTo x) (drop 1 xs)
rest-after xs x up e = let whole = subst Ascends e up in λ j d l. whole 0 (suc j) d (omega arith) (omega arith)

-- late marks alone
pub late-alone : (keys old new : List Key) (r : Option Key) → keys ≡ [] → IfSome r (λ k. old ≡ k ∷ new) → IfSome r (λ k. All (RisesTo k) new)
    → IfSome r (λ k. in_order (keys ++ old) ≡ k ∷ in_order (keys ++ new))
late-alone keys old new None e h after = tt
late-alone keys old new (Some k) e h after = rw (e, h) (taken (k ∷ new) new k after (λ q. refl))

pub none-late : (keys old : List Key) (r : Option Key) → keys ≡ [] → IfNone r (old ≡ []) → IfNone r (in_order (keys ++ old) ≡ [])
unfolding in_order
none-late keys old None e h = rw (e, h) refl
none-late keys old (Some k) e h = tt

-- the first of the keys, where all late marks are after it
pub first-taken : (keys late : List Key) (first : Key) → Ascends keys → keys ≡ first ∷ drop 1 keys → All (RisesTo first) late → in_order (keys ++ late) ≡ first ∷ in_order (drop 1 keys ++ late)
first-taken keys late first up e after =
    taken (keys ++ late) (drop 1 keys ++ late) first (All-append (RisesTo first) (drop 1 keys) late (rest-after keys first up e) after)
    (λ q. append-has keys late q ∙ ap (λ ks. has_key ks q || has_key late q) e ∙ or-assoc (is_same first q) (has_key (drop 1 keys) q) (has_key late q) ∙ ap (λ b. is_same first q || b) (sym (append-has (drop 1 keys) late q)))

-- the least late mark, where it is before the first key
pub late-taken : (keys old new : List Key) (first least : Key) → Ascends keys → keys ≡ first ∷ drop 1 keys → is_before least first ≡ true → old ≡ least ∷ new → All (RisesTo least) new
    → in_order (keys ++ old) ≡ least ∷ in_order (keys ++ new)
late-taken keys old new first least up e sooner h after =
    let others : All (RisesTo least) keys = subst (All (RisesTo least)) (sym e) (All-cons (RisesTo least) first (drop 1 keys) sooner
    (All-weaker (RisesTo first) (RisesTo least) (λ y. before-trans least first y sooner) (drop 1 keys) (rest-after keys first up e))) in
    taken (keys ++ old) (keys ++ new) least (All-append (RisesTo least) keys new others after)
    (λ q. append-has keys old q ∙ ap (λ ks. has_key keys q || has_key ks q) h ∙ or-swap (has_key keys q) (is_same least q) (has_key new q) ∙ ap (λ b. is_same least q || b) (sym (append-has keys new q)))

-- the first key, where it is the least late mark too
pub both-taken : (keys old new : List Key) (first least : Key) → Ascends keys → keys ≡ first ∷ drop 1 keys → is_before least first ≡ false → (All (RisesTo first) old → ⊥) → old ≡ least ∷ new → All (RisesTo least) new
    → in_order (keys ++ old) ≡ first ∷ in_order (drop 1 keys ++ new)
both-taken keys old new first least up e later some h after =
    let one : least ≡ first = elim (cases_Bool (is_same least first)) [
      | inl same ↦ same-is least first same
      | inr other ↦ (let sooner = higher least first later other in
          absurd (some (subst (All (RisesTo first)) (sym h) (All-cons (RisesTo first) least new sooner (All-weaker (RisesTo least) (RisesTo first) (λ y. before-trans first least y sooner) new after)))))
    ] in
    taken (keys ++ old) (drop 1 keys ++ new) first (All-append (RisesTo first) (drop 1 keys) new (rest-after keys first up e) (subst (λ k. All (RisesTo k) new) one after))
    (λ q. append-has keys old q ∙ ap (λ ks. has_key ks q || has_key old q) e ∙ ap (λ ks. (is_same first q || has_key (drop 1 keys) q) || has_key ks q) (h ∙ ap (λ k. k ∷ new) one)
    ∙ or-both (is_same first q) (has_key (drop 1 keys) q) (has_key new q) ∙ ap (λ b. is_same first q || b) (sym (append-has (drop 1 keys) new q)))

-- a key that is put among the keys or the late marks
pub put-near : (keys keys' late : List Key) (k : Key) → ((q : Key) → has_key keys' q ≡ (is_same k q || has_key keys q)) → (q : Key) → has_key (keys' ++ late) q ≡ (is_same k q || has_key (keys ++ late) q)
put-near keys keys' late k e q =
    append-has keys' late q ∙ ap (λ b. b || has_key late q) (e q) ∙ or-assoc (is_same k q) (has_key keys q) (has_key late q) ∙ ap (λ b. is_same k q || b) (sym (append-has keys late q))

pub put-late : (keys late late' : List Key) (k : Key) → ((q : Key) → has_key late' q ≡ (is_same k q || has_key late q)) → (q : Key) → has_key (keys ++ late') q ≡ (is_same k q || has_key (keys ++ late) q)
put-late keys late late' k e q =
    append-has keys late' q ∙ ap (λ b. has_key keys q || b) (e q) ∙ or-swap (has_key keys q) (is_same k q) (has_key late q) ∙ ap (λ b. is_same k q || b) (sym (append-has keys late q))

-- a key that is there already
pub still-there : (keys late : List Key) (k : Key) → has_key keys k ≡ true → (q : Key) → has_key (in_order (keys ++ late)) q ≡ (is_same k q || has_key (in_order (keys ++ late)) q)
still-there keys late k there q =
    own-again (in_order (keys ++ late)) k q (in_order-has (keys ++ late) k ∙ append-has keys late k ∙ or_left (has_key keys k) (has_key late k) there)

-- there is room for a key in the queue, where it is not in it
pub room-for : (keys late : List Key) (place room : ℕ) (k : Key) → Ascends keys → place ≤ length keys → IsPlace k keys place → has_key keys k ≡ false → length (in_order (insert keys place k ++ late)) ≤ room → length keys < room
room-for keys late place room k up bound at none fits =
    let fewer = no-more (insert keys place k) (in_order (insert keys place k ++ late)) (insert-ascends k keys place up bound at none)
    (λ q there. in_order-has (insert keys place k ++ late) q ∙ append-has (insert keys place k) late q ∙ or_left (has_key (insert keys place k) q) (has_key late q) there) in
    omega (arith, fewer, length-insert keys place k bound)

-- no marks
pub none-at-all : (keys late : List Key) → keys ≡ [] → late ≡ [] → in_order (keys ++ late) ≡ []
unfolding in_order
none-at-all keys late e h = rw (e, h) refl

-- what is left fits
pub left-fits : (r : Option Key) (old keys late : List Key) (room : ℕ) → IfNone r (keys ≡ []) → IfNone r (late ≡ []) → IfSome r (λ k. old ≡ k ∷ in_order (keys ++ late)) → length old ≤ room → length (in_order (keys ++ late)) ≤ room
left-fits None old keys late room e h taken fits = rw (none-at-all keys late e h) (omega arith)
left-fits (Some k) old keys late room e h taken fits = let shorter = ap length taken in omega arith

pub left-none : (r : Option Key) (old keys late : List Key) → IfNone r (keys ≡ []) → IfNone r (late ≡ []) → IfNone r (old ≡ []) → IfNone r (in_order (keys ++ late) ≡ old)
left-none None old keys late e h none = none-at-all keys late e h ∙ sym none
left-none (Some k) old keys late e h none = tt

-- what is taken out first is before the others
pub least-of : (r : Option Key) (old new : List Key) → Ascends old → IfSome r (λ k. old ≡ k ∷ new) → IfSome r (λ k. All (RisesTo k) new)
least-of None old new up taken = tt
least-of (Some k) old new up taken = let whole = subst Ascends taken up in λ j d l. whole 0 (suc j) d (omega arith) (omega arith)

-- a key put into the queue: what is in order then, next to late marks that stay as they are
pub record IsPutIn (keys late : List Key) (k : Key) (room : ℕ) (now late' : List Key) : Type 0 where
  pub ascends : Ascends now
  pub fits : length (in_order (now ++ late')) ≤ room
  pub marks : (q : Key) → has_key (in_order (now ++ late')) q ≡ (is_same k q || has_key (in_order (keys ++ late)) q)

pub put-in : (keys late now late' : List Key) (place room : ℕ) (k : Key) → Ascends keys → place ≤ length keys → IsPlace k keys place → has_key keys k ≡ false → length (in_order (keys ++ late)) ≤ room
    → (has_key (in_order (keys ++ late)) k ≡ false → length (in_order (keys ++ late)) < room) → (length keys < room → now ≡ insert keys place k) → late' ≡ late → IsPutIn keys late k room now late'
put-in keys late now late' place room k up bound at none fits less done same =
    let marks = put-near keys (insert keys place k) late k (insert-marks keys place k) in
    let after = still-fits (keys ++ late) (insert keys place k ++ late) k room marks fits less in
    let is = done (room-for keys late place room k up bound at none after) in
    let e : now ++ late' ≡ insert keys place k ++ late = cc in
    record {
      ascends = subst Ascends (sym is) (insert-ascends k keys place up bound at none);
      fits = subst (λ ks. length (in_order ks) ≤ room) (sym e) after;
      marks = λ q. ap (λ ks. has_key (in_order ks) q) e ∙ one-more (keys ++ late) (insert keys place k ++ late) k marks q;
    }

-- one that is set among the late marks
pub put-apart : (keys late late' : List Key) (room : ℕ) (k : Key) → Ascends keys → length (in_order (keys ++ late)) ≤ room
    → (has_key (in_order (keys ++ late)) k ≡ false → length (in_order (keys ++ late)) < room) → ((q : Key) → has_key late' q ≡ (is_same k q || has_key late q)) → IsPutIn keys late k room keys late'
put-apart keys late late' room k up fits less set =
    let marks = put-late keys late late' k set in
    record {
      ascends = up;
      fits = still-fits (keys ++ late) (keys ++ late') k room marks fits less;
      marks = one-more (keys ++ late) (keys ++ late') k marks;
    }
