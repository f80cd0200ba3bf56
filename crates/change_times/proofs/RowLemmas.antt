-- The rows of transfers.txt by pair.
use Rattle.change_times.proofs.Words.{◌≡◌, ℕ, ◌+◌, ◌<◌, List, [], ◌∷◌, Bool, None, All, length, get_or, refl, sym, ◌∙◌, ap, subst, arith, inl, inr, cases_Bool, cases_lt, lt-ltb, le-ltb, ltb, leb, slice_get, filter, dedup, IsNonDecreasingBy, TransferRow, part-is, from_of, to_of, is_from, is_to, is_same_pair, IsByPair, HaveSameFirsts}
use Rattle.std.proofs.lemmas.Bool.{le-leb, lt-leb}
use Rattle.std.proofs.lemmas.List.Kept.{IsNonDecreasingBy-filter}
use Rattle.std.specs.Prelude.{slice_index}
use Rattle.feed_tables.proofs.OrderLemmas.{stays, tie}
use Rattle.change_times.proofs.CutLemmas.{IsPart}
use Rattle.change_times.specs.Stored.{row_bounds, IsIndexed}
use Rattle.change_times.proofs.PairLemmas.{first-stays}
use Rattle.change_times.proofs.TableLemmas.{find-head}
use Rattle.change_times.proofs.SortLemmas.{Between, between-order, between-part}

-- a row from a location to another
abbrev pub row_between : ℕ → ℕ → TransferRow
row_between a b = record { from_stop = a; to_stop = b; kind = 0; seconds = None }

-- rows that were sorted by where they lead to, and then by where they lead from
pub record AreSorted (rows once twice : List TransferRow) : Type 0 where
  pub first : IsNonDecreasingBy to_of once
  pub second : IsNonDecreasingBy from_of twice
  pub first_stable : (z : TransferRow) → filter (tie to_of z) once ≡ filter (tie to_of z) rows
  pub second_stable : (z : TransferRow) → filter (tie from_of z) twice ≡ filter (tie from_of z) once

filter-swap : {X : Type 0} (p q : X → Bool) (xs : List X) → filter p (filter q xs) ≡ filter q (filter p xs)
filter-swap p q [] = refl
filter-swap p q (x ∷ xs) =
    elim (cases_Bool (p x)) [
      | inl a ↦
          elim (cases_Bool (q x)) [
            | inl b ↦ simp (a, b) (ap (λ r. x ∷ r) (filter-swap p q xs))
            | inr b ↦ simp (a, b) (filter-swap p q xs)
          ]
      | inr a ↦
          elim (cases_Bool (q x)) [
            | inl b ↦ simp (a, b) (filter-swap p q xs)
            | inr b ↦ simp (a, b) (filter-swap p q xs)
          ]
    ]

same-from : (rows once twice : List TransferRow) (a : ℕ) → AreSorted rows once twice → filter (is_from a) twice ≡ filter (is_from a) once
same-from rows once twice a h = stays from_of once twice (row_between a 0) (h.second_stable (row_between a 0))

pub by-pair : (rows once twice : List TransferRow) → AreSorted rows once twice → IsByPair twice
by-pair rows once twice h = record {
  from = h.second;
  to = λ a. subst (IsNonDecreasingBy to_of) (sym (same-from rows once twice a h)) (IsNonDecreasingBy-filter to_of (is_from a) once h.first);
}

same-pairs : (rows once twice : List TransferRow) → AreSorted rows once twice → (a b : ℕ) → filter (is_to b) (filter (is_from a) twice) ≡ filter (is_to b) (filter (is_from a) rows)
same-pairs rows once twice h a b =
    ap (filter (is_to b)) (same-from rows once twice a h)
    ∙ filter-swap (is_to b) (is_from a) once
    ∙ ap (filter (is_from a)) (stays to_of rows once (row_between 0 b) (h.first_stable (row_between 0 b)))
    ∙ filter-swap (is_from a) (is_to b) rows

-- with one row for each pair, the first of each pair is that of the file
pub same-firsts : (rows once twice : List TransferRow) → AreSorted rows once twice → HaveSameFirsts rows (dedup is_same_pair twice)
unfolding HaveSameFirsts
same-firsts rows once twice h a b =
    first-stays twice a b ∙ find-head (is_to b) (filter (is_from a) twice)
    ∙ ap (λ xs. slice_get xs 0) (same-pairs rows once twice h a b) ∙ sym (find-head (is_to b) (filter (is_from a) rows))

leb-suc : (x k : ℕ) → leb x k ≡ ltb x (k + 1)
leb-suc x k =
    elim (cases_lt x (k + 1)) [
      | inl l ↦ le-leb x k (omega (arith, l)) ∙ sym (lt-ltb x (k + 1) l)
      | inr l ↦ lt-leb x k (omega (arith, l)) ∙ sym (le-ltb x (k + 1) l)
    ]

none-from : (rows : List TransferRow) (a : ℕ) → All (λ row. from_of row < a) rows → filter (is_from a) rows ≡ []
none-from rows a h =
    sym (part-is from_of a (length rows) 0 rows (λ i d l m. h i d m) (λ i d l m n. absurd (omega (arith, l, n))) (λ i d l m. absurd (omega (arith, l, m))))

-- the bounds of the rows of a location are those of a part
row-part : (rows : List TransferRow) (starts : List ℕ) (a : ℕ) → IsIndexed rows starts → IsPart rows (filter (is_from a) rows) (row_bounds starts a)
row-part rows starts a h =
    elim (cases_lt (a + 1) (length starts)) [
      | inl l ↦
          let first = h.starts a (omega (arith, l)) in
          let last = h.starts (a + 1) l in
          let between : Between from_of a rows (slice_index starts a) (slice_index starts (a + 1)) = record {
            start = first.point;
            end = (λ k d m n. leb-suc (from_of (get_or rows k d)) a ∙ last.point.0 k d m n, λ k d m n. leb-suc (from_of (get_or rows k d)) a ∙ last.point.1 k d m n);
            within = first.within;
          } in
          let order = between-order from_of a rows _ _ (row_between 0 0) between in
          rw (lt-ltb (a + 1) (length starts) l) (record {
            order = order;
            within = last.within;
            part = between-part from_of a rows _ _ order between;
          })
      | inr l ↦
          rw (le-ltb (a + 1) (length starts) l) (record {
            order = omega arith;
            within = omega arith;
            part = sym (none-from rows a (λ k d m. let f = h.from k d m in omega (arith, f, l)));
          })
    ]

pub bounded-rows : (given starts : List ℕ) (rows : List TransferRow) (a : ℕ) (bounds : ℕ × ℕ) → bounds ≡ row_bounds given a → given ≡ starts → IsIndexed rows starts → IsPart rows (filter (is_from a) rows) bounds
bounded-rows given starts rows a bounds e f h =
    subst (IsPart rows (filter (is_from a) rows)) (sym (e ∙ ap (λ ss. row_bounds ss a) f)) (row-part rows starts a h)
