-- The line of a train in which calls were replaced by others.
use Rattle.call_lines.proofs.Words.{true, get-old, get-past, new_calls, new_call, Call, NewCall, ◌≡◌, ℕ, suc, ◌+◌, ◌-◌, ◌<◌, ◌≤◌, inl, inr, List, ◌∷◌, ◌++◌, cond, nat_lt, Some, length}
use Rattle.call_lines.proofs.Words.{take, drop, refl, arith, slice_get, map, nat_le, ◌⊎◌, cases_lt, nat_tests, length-append, length-take-le, length-drop, length-map, slice_get_within}
use Rattle.call_lines.proofs.Words.{slice_get-map, last_label, IsLineAt, IsPlacedAt, AreReplaced, IsLineCall, walk, call_of, StoredCall}
use Rattle.call_lines.proofs.CallPlaces.{get-drop, get-take, last-at}
use Rattle.call_lines.proofs.Numbered.{numbered-new}
use Rattle.call_lines.proofs.TrainLines.{line-at, line-length, placed-at, same-within, some-of}

get-new : (label next : ℕ) (via : List NewCall) (j : ℕ) (v : NewCall) → next ≡ label + j → slice_get via j ≡ Some v → slice_get (new_calls label via) j ≡ Some (new_call next v)
get-new label next (u ∷ via) (suc j) v e h = get-new (label + 1) next via j v (omega arith) h
get-new label next via j v e h = grind (arith, e, h)

-- where each call of the rerouted train stands: the calls up to a place, the new ones from the slot `used` on, and those from another
-- place on
abbrev pub spliced : (ℕ → ℕ) → ℕ → ℕ → ℕ → ℕ → ℕ → ℕ
spliced at first last used count k =
    cond (nat_le k first) (at k)
    (cond (nat_lt k (first + 1 + count)) (used + (k - (first + 1))) (at (k + last - (first + 1 + count))))

-- the calls strictly between two places of a train were replaced by others
pub record IsSplice (cs mid : List StoredCall) (train len from to first last label : ℕ) (at : ℕ → ℕ) (via : List NewCall) : Type 0 where
  pub placed : IsPlacedAt cs train len at
  pub start : at first ≡ from
  pub end : at last ≡ to
  pub order : first < last
  pub within : last < len
  pub replaced : AreReplaced train from to first last label via cs mid

module _ {cs mid : List StoredCall} {train len from to first last label : ℕ} {at : ℕ → ℕ} {via : List NewCall} (w : IsSplice cs mid train len from to first last label at via) where
  abbrev count : ℕ
  count = length via

  abbrev size : ℕ
  size = len - (last - first - 1) + count

  abbrev new_at : ℕ → ℕ
  new_at = spliced at first last (length cs) count

  -- a call that stays has one place in the new line and one in the old
  abbrev StaysAt : ℕ → ℕ → Type 0
  StaysAt k m = ((m ≡ k) × (k ≤ first)) ⊎ ((k + last ≡ m + (first + 1 + count)) × (last ≤ m))

  stays : (k m : ℕ) → StaysAt k m → new_at k ≡ at m
  stays k m h = grind (arith, nat_tests)

  kept-call : (k m : ℕ) → StaysAt k m → m < len → IsLineCall mid train size new_at k
  kept-call k m h l =
      let c = w.placed.line.calls m l in
      let d = w.placed.line.calls first (omega arith) in
      let e = w.placed.line.calls last w.within in
      grind (arith, nat_tests, stays k m h, c, w.replaced.calls (at m) c.call c.stored, w.placed.places m c.call, d.stored, e.stored, w.placed.places first d.call, w.placed.places last e.call, w.start, w.end)

  fresh-call : (k j : ℕ) → k ≡ first + 1 + j → j < count → IsLineCall mid train size new_at k
  fresh-call k j e l =
      let v = some-of via j l in grind (arith, nat_tests, w.replaced.made j v.0 v.1, w.start, w.end)

  kept-current : (k m : ℕ) (y : StoredCall) → StaysAt k m → m < len → slice_get mid (new_at k) ≡ Some y → y.current ≡ true
  kept-current k m y h l e =
      let c = w.placed.line.calls m l in
      grind (arith, nat_tests, stays k m h, e, c, w.placed.line.current m c.call l, w.placed.places m c.call l, w.replaced.calls (at m) c.call c.stored)

  -- the line of the rerouted train
  pub spliced-line : IsLineAt mid train size new_at
  spliced-line =
      record {
        calls = λ k l. grind (arith, kept-call k k, fresh-call k (k - (first + 1)), kept-call k (k + last - (first + 1 + count)));
        current = λ k y l e.
            let j = k - (first + 1) in
            grind (arith, nat_tests, e, kept-current k k y, fresh-call k j, λ (v : NewCall). w.replaced.made j v, some-of via j, kept-current k (k + last - (first + 1 + count)) y);
        covers = λ i y g t c. elim (cases_lt i (length cs)) [
          | inl old ↦ (
              let x = some-of cs i old in
              let z = w.replaced.calls i x.0 x.1 in
              let stands = placed-at cs train len at w.placed i x.0 x.1 in
              (cond (nat_lt x.0.place (first + 1)) x.0.place (x.0.place + (first + 1 + count) - last), grind (arith, nat_tests, g, z, stands), grind (arith, nat_tests, g, z, stands)))
          | inr new ↦ (first + 1 + (i - length cs), omega (arith, slice_get_within mid i y g), grind (arith, nat_tests, slice_get_within mid i y g))
        ];
      }

  abbrev old_calls : List Call
  old_calls = map call_of (walk cs len (at 0))

  abbrev new_line : List Call
  new_line = map call_of (walk mid size (new_at 0))

  sizes : (length new_line ≡ size) × (length old_calls ≡ len)
  sizes = (simp length-map (line-length mid train size new_at spliced-line.calls), simp length-map (line-length cs train len at w.placed.line.calls))

  kept-get : (k m : ℕ) → k < size → m < len → StaysAt k m → slice_get new_line k ≡ slice_get old_calls m
  kept-get k m l n e =
      let c = w.placed.line.calls m n in
      grind (arith, nat_tests, slice_get-map call_of, line-at mid train size new_at spliced-line.calls k l, w.replaced.calls (at m) c.call c.stored, line-at cs train len at w.placed.line.calls m n, c.stored)

  fresh-get : (k j : ℕ) → k < size → k ≡ first + 1 + j → j < count → slice_get new_line k ≡ slice_get (new_calls label via) j
  fresh-get k j m e l =
      let v = some-of via j l in
      grind (arith, nat_tests, slice_get-map call_of, line-at mid train size new_at spliced-line.calls k m, w.replaced.made j v.0 v.1, get-new label (label + j) via j v.0 refl v.1)

  -- its calls
  pub spliced-calls : new_line ≡ take (first + 1) old_calls ++ new_calls label via ++ drop last old_calls
  spliced-calls =
      let head = take (first + 1) old_calls in
      let made = new_calls label via in
      let tail = drop last old_calls in
      let parts : (length head ≡ first + 1) × (length made ≡ count) × (length tail ≡ len - last) = grind (arith, sizes, length-take-le (first + 1) old_calls, (numbered-new label via).length_is, length-drop last old_calls) in
      same-within new_line (head ++ made ++ tail) (omega (arith, sizes, length-append head made, length-append (head ++ made) tail)) (λ k l.
      grind (arith, sizes, length-append head made, get-old (head ++ made) tail k, get-old head made k, get-past head made k (k - (first + 1)), get-past (head ++ made) tail k (k - (first + 1 + count)), get-take (first + 1) old_calls k, get-drop last old_calls, kept-get k k, fresh-get k (k - (first + 1)), kept-get k (k + last - (first + 1 + count))))

  -- the last of them stays the last
  pub spliced-last : last_label new_line ≡ last_label old_calls
  spliced-last = grind (arith, sizes, last-at new_line, last-at old_calls, kept-get (size - 1) (len - 1))

  pub spliced-begins : new_at 0 ≡ at 0
  spliced-begins = grind (arith, nat_tests)

  pub spliced-ends : new_at (size - 1) ≡ at (len - 1)
  spliced-ends = grind (arith, nat_tests)
