-- Entries of added calls that name earlier ones of their train.
use Rattle.event_numbers.proofs.Words.{◌≡◌, ◌-◌, ℕ, suc, ◌<◌, List, [], ◌∷◌, ◌++◌, ◌⊎◌, inl, inr, cond, nat_eq, length, append-nil, arith, Some, None, slice_get, nat_tests, map-append, filter-append, slice_get_cases}
use Rattle.event_numbers.proofs.Words.{AddedCall, added_slots, IsEntry, IsJump, IsLink, AreLinked}
use Rattle.event_numbers.proofs.ListLemmas.{get-append, get-more}

-- what stands at a place is linked
pub link-at : (xs : List AddedCall) (place : ℕ) → AreLinked xs → (slice_get xs place ≡ None) ⊎ ((e : AddedCall) × (slice_get xs place ≡ Some e) × IsLink xs e)
link-at xs place h = elim (slice_get_cases xs place).1 [ inl e ↦ inr (e.0, e.2, h place e.0 e.2) | inr past ↦ inl past.1 ]

-- what functions that go from entry to entry need
pub ruleset links = (slice_get_cases, link-at, nat_tests)

-- the entry before one, if there is one
pub before_at : (xs : List AddedCall) (e : AddedCall) → IsLink xs e → (slice_get (added_slots e.train xs) e.nth ≡ Some e.slot) × ((e.nth ≡ 0) ⊎ IsEntry xs e.before e.train (e.nth - 1))
before_at xs e h = (h.slot, grind (arith, h.before (e.nth - 1)))

-- the slots of a train, with one more entry
pub added-push : (t : ℕ) (xs : List AddedCall) (e : AddedCall) → added_slots t (xs ++ e ∷ []) ≡ cond (nat_eq e.train t) (added_slots t xs ++ e.slot ∷ []) (added_slots t xs)
added-push t xs e = simp (filter-append, map-append) (grind (arith, append-nil (added_slots t xs)))

pub entry-more : (xs ys : List AddedCall) (place t n : ℕ) → IsEntry xs place t n → IsEntry (xs ++ ys) place t n
entry-more xs ys place t n h = record { entry = h.entry; is = get-more xs ys place h.entry h.is; train = h.train; nth = h.nth }

-- all stay linked with one more behind them
pub linked-more : (xs : List AddedCall) (new : AddedCall) → AreLinked xs → IsLink (xs ++ new ∷ []) new → AreLinked (xs ++ new ∷ [])
linked-more xs new all link place e is = grind (arith, nat_tests, is, get-append, all place e, link, added-push, entry-more, slice_get_cases)

-- the entry of one more call of a train is linked
pub next-link : (xs : List AddedCall) (e : AddedCall) → length (added_slots e.train xs) ≡ e.nth → ((m : ℕ) → e.nth ≡ suc m → IsEntry xs e.before e.train m) → (0 < e.nth → IsJump xs e.jump e.train e.nth) → (e.nth ≡ 0 → e.jump ≡ length xs) → IsLink (xs ++ e ∷ []) e
next-link xs e count before jump first = grind (arith, nat_tests, count, before, jump, first, added-push, get-append, entry-more)
