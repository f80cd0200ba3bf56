-- The stored calls of a train by the slots of its places, and a change of them.
use Rattle.call_lines.proofs.Words.{IsLineCall, same-gets, HasDistinctLabels, ◌≡◌, ◌≢◌, ℕ, zero, suc, ◌+◌, ◌-◌, ◌<◌, ◌≤◌, List, true, Some, length, refl, ◌∙◌}
use Rattle.call_lines.proofs.Words.{arith, slice_get, map, slice_get_past, slice_get_within, IsLineAt, IsPlacedAt, Call}
use Rattle.call_lines.proofs.Words.{walk, call_of, IsLine, IsRenewed, StoredCall, slice_get_cases, inl, inr}

-- a call after a change of a train's calls: its links and its label stay, and a call of another train stays as it is
pub record IsChangedBy (t : ℕ) (g : Call → Call) (x y : StoredCall) : Type 0 where
  pub train_same : y.train ≡ x.train
  pub label_same : y.label ≡ x.label
  pub before_same : y.before ≡ x.before
  pub after_same : y.after ≡ x.after
  pub current_same : y.current ≡ x.current
  pub call_is : x.train ≡ t → call_of y ≡ g (call_of x)
  pub other : x.train ≢ t → y ≡ x

-- all calls after it
pub record IsLineChange (t : ℕ) (g : Call → Call) (cs ds : List StoredCall) : Type 0 where
  pub count : length ds ≡ length cs
  pub at : (i : ℕ) (x : StoredCall) → slice_get cs i ≡ Some x → (y : StoredCall) × (slice_get ds i ≡ Some y) × IsChangedBy t g x y

-- each call was one before
pub changed-back : (t : ℕ) (g : Call → Call) (cs ds : List StoredCall) (w : IsLineChange t g cs ds) (i : ℕ) (y : StoredCall) → slice_get ds i ≡ Some y → (x : StoredCall) × (slice_get cs i ≡ Some x) × IsChangedBy t g x y
changed-back t g cs ds w i y h = grind (arith, h, w.count, slice_get_within ds i y h, slice_get_cases cs i, w.at i)

-- there is one at each place of a list
pub some-of : {X : Type 0} (xs : List X) (i : ℕ) → i < length xs → (x : X) × (slice_get xs i ≡ Some x)
some-of xs i l = elim (slice_get_cases xs i).1 [ inl x ↦ (x.0, x.2) | inr none ↦ absurd (omega arith) ]

-- what stands at a place is one element
pub one-of : {X : Type 0} (xs : List X) (i : ℕ) (x y : X) → slice_get xs i ≡ Some x → slice_get xs i ≡ Some y → x ≡ y
one-of xs i x y h k = cc

-- lists of one length with the same elements are one
pub same-within : {X : Type 0} (xs ys : List X) → length xs ≡ length ys → ((k : ℕ) → k < length xs → slice_get xs k ≡ slice_get ys k) → xs ≡ ys
same-within xs ys e h = same-gets xs ys (λ k. grind (arith, h k, slice_get_past xs k, slice_get_past ys k))

module _ (cs : List StoredCall) (train len : ℕ) (at : ℕ → ℕ) (calls : (place : ℕ) → place < len → IsLineCall cs train len at place) where
  -- a walk along it finds so many calls, those in the slots of the places
  pub walked : (n j s : ℕ) → j + n ≤ len → (0 < n → s ≡ at j) → (length (walk cs n s) ≡ n) × ((k i : ℕ) → k < n → i ≡ j + k → slice_get (walk cs n s) k ≡ slice_get cs (at i))
  walked zero j s l e = (refl, λ k i m f. absurd (omega arith))
  walked (suc n) j s l e = grind (arith, e, calls j, λ (z : ℕ). walked n (j + 1) z)

  pub line-length : length (walk cs len (at 0)) ≡ len
  line-length = (walked len 0 (at 0) (omega arith) (λ l. refl)).0

  -- its calls by place
  pub line-at : (k : ℕ) → k < len → slice_get (walk cs len (at 0)) k ≡ slice_get cs (at k)
  line-at k l = (walked len 0 (at 0) (omega arith) (λ l. refl)).1 k k l (omega arith)

  pub line-of : HasDistinctLabels (map call_of (walk cs len (at 0))) → IsLine train (at 0) (at (len - 1)) len cs
  line-of distinct = record { at = at; calls = calls; begins = refl; ends = refl; apart = distinct }

-- a call of the train stands at its place
pub placed-at : (cs : List StoredCall) (train len : ℕ) (at : ℕ → ℕ) (w : IsPlacedAt cs train len at) (i : ℕ) (x : StoredCall) → slice_get cs i ≡ Some x → x.train ≡ train → x.current ≡ true → (x.place < len) × (at x.place ≡ i)
placed-at cs train len at w i x h t c = grind (arith, h, w.line.covers i x h t c, w.places)

-- what a train's calls are after they got their places anew
pub renewed-line : (old new : List StoredCall) (train len : ℕ) (at : ℕ → ℕ) → IsLineAt old train len at → IsRenewed train (at 0) len old new → IsPlacedAt new train len at
renewed-line old new train len at w r =
    let line : IsLineAt new train len at = record {
      calls = λ k l. grind (arith, w.calls k l, r.alike (at k) (w.calls k l).call (w.calls k l).stored);
      current = λ k y l h. let c = w.calls k l in grind (arith, h, w.current k c.call l c.stored, r.alike (at k) c.call c.stored);
      covers = λ i y h t c.
          let x = some-of old i (omega (arith, slice_get_within new i y h, r.same_count)) in grind (arith, h, t, c, x, r.alike i x.0 x.1, w.covers i x.0 x.1);
    } in
    record { line = line; places = λ k x l h. r.places k x l (line-at new train len at line.calls k l ∙ h) }
