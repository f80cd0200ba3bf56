-- All live events marked, one after the other.
use Rattle.timetable.proofs.Words.{◌≡◌, ℕ, ◌⊎◌, ◌||◌, true, List, [], ◌∷◌, ◌++◌, refl, ◌∙◌, arith, inl, inr, All, All-contains_itself, All-left, All-head, All-right, Contains, Contains-append_cases, Contains-cases, Bool, Key, is_same, same-itself, Event, live_keys, Marked, is_marked, AreMarksOf}
use Rattle.timetable.proofs.Words.{IsPermutation, All-permutation, Contains-permutation}

-- all live events but these are marked, and these are live
pub record AreMarkedBut (es : List Event) (left : List Key) (room : ℕ) (marks : Marked) : Type 0 where
  pub kept : marks.room ≡ room
  pub fit : AreMarksOf es marks
  pub known : All (Contains (live_keys es)) left
  pub others : (k : Key) → Contains (live_keys es) k → Contains left k ⊎ (is_marked marks k ≡ true)

pub none-marked : (es : List Event) (keys : List Key) (marks : Marked) → AreMarksOf es marks → IsPermutation (live_keys es) keys → AreMarkedBut es keys marks.room marks
none-marked es keys marks fit moved = record {
  kept = refl;
  fit = fit;
  known = All-permutation (Contains (live_keys es)) (live_keys es) keys moved (All-contains_itself (live_keys es));
  others = λ k h. inl (Contains-permutation (live_keys es) keys k moved h);
}

own-one : (k q : Key) → Contains (k ∷ []) q → k ≡ q
own-one k q h = elim (Contains-cases k [] q h) [ inl is ↦ is | inr none ↦ absurd (let l = none.1 in omega arith) ]

or-true : (b : Bool) → (b || true) ≡ true
or-true b = grind arith

-- the last of them is marked
pub marked-more : (es : List Event) (left : List Key) (k : Key) (room : ℕ) (marks new : Marked) → AreMarkedBut es (left ++ k ∷ []) room marks → AreMarksOf es new → ((q : Key) → is_marked new q ≡ (is_marked marks q || is_same k q)) → new.room ≡ marks.room → AreMarkedBut es left room new
marked-more es left k room marks new h fit marked same = record {
  kept = same ∙ h.kept;
  fit = fit;
  known = All-left (Contains (live_keys es)) left (k ∷ []) h.known;
  others = λ q there. elim (h.others q there) [
    | inl later ↦ elim (Contains-append_cases left (k ∷ []) q later) [
      | inl still ↦ inl still
      | inr last ↦ inr (let is : k ≡ q = own-one k q last in let own = same-itself q in rw (marked q, is, own) (or-true (is_marked marks q)))
    ]
    | inr done ↦ inr (rw (marked q, done) refl)
  ];
}

pub last-known : (es : List Event) (left : List Key) (k : Key) (room : ℕ) (marks : Marked) → AreMarkedBut es (left ++ k ∷ []) room marks → Contains (live_keys es) k
last-known es left k room marks h = All-head (Contains (live_keys es)) k [] (All-right (Contains (live_keys es)) left (k ∷ []) h.known)
