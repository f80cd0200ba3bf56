-- The windows of lines, the bounds of their lines, and what lines leave.
use Rattle.std.proofs.Common.{◌≡◌, ℕ, zero, suc, ◌+◌, ◌<◌, ◌≤◌, Bool, true, false, ◌||◌, nat_eq, List, [], ◌∷◌, ◌++◌, Option, Some, None, length, map, refl, ◌∙◌, ap, arith, inl, inr, length-append, append_assoc}
use Rattle.std.proofs.Math.Logic.{◌↔◌}
use Rattle.std.specs.Option.{option_map_or}
use Rattle.std.specs.List.{All, AllPairs, fold, slice_get, list_any, onto_first}
use Rattle.std.proofs.lemmas.Bool.{cases_Bool}
use Rattle.std.proofs.lemmas.Grind.{elements}
use Rattle.std.proofs.lemmas.List.{length-map}
use Rattle.std.proofs.lemmas.List.Sums.{fold-append}
use Rattle.std.proofs.lemmas.List.Elements.{All-cons, All-nil, All-tail}
use Rattle.delay_model.specs.declared.network.Network.{Network}
use Rattle.delay_model.specs.declared.state.State.{State}
use Rattle.delay_model.specs.declared.messages.Message.{Message}
use Rattle.delay_model.specs.Effect.{effect}
use Rattle.delay_model.specs.After.{after_messages, Reading, accepted_message, accepted, known_after, Progress, after_accepted, after_line}
use Rattle.delay_model.specs.Windows.{windows, windows_from, ends_window, lines_of, HasFlushLast, is_closed, AreWindows, between, bounds_of, accepted_bounds}
use Rattle.delay_model.proofs.Lists.{AllPairs-cons, AllPairs-nil, AllPairs-tail}

-- a window and those after it, where `before` lines of the window stand before it
record IsWindow {X : Type 0} (is_flush : X → Bool) (before : ℕ) (w : List X) (later : List (List X)) : Type 0 where
  some : 1 ≤ length w
  most : before + length w ≤ 256
  flush : HasFlushLast is_flush w
  closed : 1 ≤ length later → nat_eq (before + length w) 256 || list_any is_flush w ≡ true

Fit : {X : Type 0} → (X → Bool) → ℕ → List (List X) → Type 0
Fit is_flush before [] = Unit {0}
Fit is_flush before (w ∷ ws) = IsWindow is_flush before w ws × Fit is_flush 0 ws

one-line : {X : Type 0} (is_flush : X → Bool) (before : ℕ) (x : X) (later : List (List X)) → before < 256 → ends_window is_flush before x ≡ true → IsWindow is_flush before (x ∷ []) later
one-line is_flush before x later l ends =
    record { some = omega arith; most = omega arith; flush = λ i d l. absurd (omega arith); closed = λ _. grind arith }

flush-more : {X : Type 0} (is_flush : X → Bool) (x : X) (w : List X) → is_flush x ≡ false → HasFlushLast is_flush w → HasFlushLast is_flush (x ∷ w)
flush-more is_flush x w no_flush h zero d l = no_flush
flush-more is_flush x w no_flush h (suc i) d l = h i d (omega arith)

line-more : {X : Type 0} (is_flush : X → Bool) (before : ℕ) (x : X) (w : List X) (later : List (List X)) → ends_window is_flush before x ≡ false → IsWindow is_flush (before + 1) w later → IsWindow is_flush before (x ∷ w) later
line-more is_flush before x w later goes_on h =
    let le = h.most in
    record { some = omega arith; most = omega arith; flush = flush-more is_flush x w (grind arith) h.flush; closed = λ more. let c = h.closed more in grind arith }

onto-fit : {X : Type 0} (is_flush : X → Bool) (before : ℕ) (x : X) (ws : List (List X)) → before < 256 → ends_window is_flush before x ≡ false → Fit is_flush (before + 1) ws → Fit is_flush before (onto_first x ws)
unfolding Fit
onto-fit is_flush before x [] l goes_on h =
    (record { some = omega arith; most = omega arith; flush = λ i d l. absurd (omega arith); closed = λ more. absurd (omega arith) }, tt)
onto-fit is_flush before x (w ∷ ws) l goes_on h = (line-more is_flush before x w ws goes_on h.0, h.1)

windows-fit : {X : Type 0} (is_flush : X → Bool) (before : ℕ) (xs : List X) → before < 256 → Fit is_flush before (windows_from is_flush before xs)
unfolding Fit
windows-fit is_flush before [] l = tt
windows-fit is_flush before (x ∷ xs) l =
    elim (cases_Bool (ends_window is_flush before x)) [
      | inl ends ↦ rw ends (one-line is_flush before x _ l ends, windows-fit is_flush 0 xs (omega arith))
      | inr goes_on ↦ rw goes_on (onto-fit is_flush before x _ l goes_on (windows-fit is_flush (before + 1) xs (grind arith)))
    ]

onto-lines : {X : Type 0} (x : X) (ws : List (List X)) → lines_of (onto_first x ws) ≡ x ∷ lines_of ws
onto-lines x ws = grind arith

windows-lines : {X : Type 0} (is_flush : X → Bool) (before : ℕ) (xs : List X) → lines_of (windows_from is_flush before xs) ≡ xs
windows-lines is_flush before [] = refl
windows-lines is_flush before (x ∷ xs) =
    elim (cases_Bool (ends_window is_flush before x)) [
      | inl ends ↦ rw (ends, windows-lines is_flush 0 xs) refl
      | inr goes_on ↦ rw goes_on (onto-lines x _ ∙ ap (λ ys. x ∷ ys) (windows-lines is_flush (before + 1) xs))
    ]

last-window : {X : Type 0} (is_flush : X → Bool) (before : ℕ) (x : X) (ws : List (List X)) → IsWindow is_flush before (x ∷ []) ws → ends_window is_flush before x ≡ false → (x ∷ []) ∷ ws ≡ onto_first x (windows_from is_flush (before + 1) (lines_of ws))
last-window is_flush before x [] h goes_on = refl
last-window is_flush before x (v ∷ vs) h goes_on = let c = h.closed (omega arith) in absurd (grind arith)

-- there are no other windows
only-window : {X : Type 0} (is_flush : X → Bool) (before : ℕ) (w : List X) (ws : List (List X)) → IsWindow is_flush before w ws → ws ≡ windows_from is_flush 0 (lines_of ws) → w ∷ ws ≡ windows_from is_flush before (w ++ lines_of ws)
only-window is_flush before [] ws h rest = let some = h.some in absurd (omega arith)
only-window is_flush before (x ∷ []) ws h rest =
    elim (cases_Bool (ends_window is_flush before x)) [
      | inl ends ↦ rw ends (ap (λ vs. (x ∷ []) ∷ vs) rest)
      | inr goes_on ↦ rw goes_on (last-window is_flush before x ws h goes_on)
    ]
only-window is_flush before (x ∷ y ∷ w) ws h rest =
    let no_flush = h.flush 0 x (omega arith) in
    let most = h.most in
    let goes_on : ends_window is_flush before x ≡ false = grind arith in
    let less : IsWindow is_flush (before + 1) (y ∷ w) ws = record { some = omega arith; most = omega arith; flush = λ i d l. h.flush (suc i) d (omega arith); closed = λ more. let c = h.closed more in grind arith } in
    rw goes_on (ap (onto_first x) (only-window is_flush (before + 1) (y ∷ w) ws less rest))

only-windows : {X : Type 0} (is_flush : X → Bool) (ws : List (List X)) → Fit is_flush 0 ws → ws ≡ windows_from is_flush 0 (lines_of ws)
unfolding Fit
only-windows is_flush [] h = refl
only-windows is_flush (w ∷ ws) h = only-window is_flush 0 w ws h.0 (only-windows is_flush ws h.1)

fit-from : {X : Type 0} (is_flush : X → Bool) (ws : List (List X)) → All (λ w. (1 ≤ length w) × (length w ≤ 256)) ws → All (HasFlushLast is_flush) ws → AllPairs (λ w later. is_closed is_flush w ≡ true) ws → Fit is_flush 0 ws
unfolding Fit
fit-from is_flush [] lines flush closed = tt
fit-from is_flush (w ∷ ws) lines flush closed =
    let sizes = lines 0 w (omega arith) in
    let ends : 1 ≤ length ws → is_closed is_flush w ≡ true = λ more. closed 0 1 w (omega arith) (omega arith) in
    let no_more : 0 + length w ≡ length w = omega arith in (
      record { some = sizes.0; most = rw no_more sizes.1; flush = flush 0 w (omega arith); closed = λ more. rw no_more (ends more) },
      fit-from is_flush ws (All-tail (λ w. (1 ≤ length w) × (length w ≤ 256)) w ws lines) (All-tail (HasFlushLast is_flush) w ws flush)
          (AllPairs-tail (λ w later. is_closed is_flush w ≡ true) w ws closed),
    )

from-fit : {X : Type 0} (is_flush : X → Bool) (ws : List (List X)) → Fit is_flush 0 ws → AreWindows is_flush (lines_of ws) ws
unfolding Fit
from-fit is_flush [] h =
    record {
      joined = refl;
      lines = All-nil (λ w. (1 ≤ length w) × (length w ≤ 256));
      flush = All-nil (HasFlushLast is_flush);
      closed = AllPairs-nil (λ w later. is_closed is_flush w ≡ true);
    }
from-fit is_flush (w ∷ ws) h =
    let rest = from-fit is_flush ws h.1 in
    let first = h.0 in
    let no_more : 0 + length w ≡ length w = omega arith in
    record {
      joined = refl;
      lines = All-cons (λ w. (1 ≤ length w) × (length w ≤ 256)) w ws (first.some, rw no_more at first.most) rest.lines;
      flush = All-cons (HasFlushLast is_flush) w ws first.flush rest.flush;
      closed = AllPairs-cons (λ w later. is_closed is_flush w ≡ true) w ws (λ k d l. rw no_more at (first.closed (omega arith))) rest.closed;
    }

are-windows : {X : Type 0} (is_flush : X → Bool) (xs : List X) (ws : List (List X)) → ws ≡ windows is_flush xs → AreWindows is_flush xs ws
unfolding windows
are-windows is_flush xs ws e =
    let same = windows-lines is_flush 0 xs in
    let all = from-fit is_flush _ (windows-fit is_flush 0 xs (omega arith)) in
    rw e (rw same at all)

windows-alone : {X : Type 0} (is_flush : X → Bool) (xs : List X) (ws : List (List X)) → AreWindows is_flush xs ws → ws ≡ windows is_flush xs
unfolding windows
windows-alone is_flush xs ws h = rw h.joined at (only-windows is_flush ws (fit-from is_flush ws h.lines h.flush h.closed))

pub windows-are : {X : Type 0} (is_flush : X → Bool) (xs : List X) (ws : List (List X)) → AreWindows is_flush xs ws ↔ (ws ≡ windows is_flush xs)
windows-are is_flush xs ws = (windows-alone is_flush xs ws, are-windows is_flush xs ws)

module _ {X S : Type 0} (next : S → X → S) (count : S → ℕ) where
  pub bounds-length : (s : S) (ws : List (List X)) → length (bounds_of next count s ws) ≡ length (lines_of ws)
  bounds-length s [] = refl
  bounds-length s (w ∷ ws) = grind (arith, elements, bounds-length (fold next s w) ws)

get-past : {A : Type 0} (xs ys : List A) (n m : ℕ) → m ≡ length xs + n → slice_get (xs ++ ys) m ≡ slice_get ys n
get-past [] ys n m e = let same : m ≡ n = omega arith in rw same
get-past (x ∷ xs) ys n zero e = absurd (omega arith)
get-past (x ∷ xs) ys n (suc m) e = get-past xs ys n m (omega arith)

get-same : {X A : Type 0} (a : A) (w : List X) (rest : List A) (i : ℕ) → i < length w → slice_get (map (λ _. a) w ++ rest) i ≡ Some a
get-same a [] rest i l = absurd (omega arith)
get-same a (x ∷ w) rest zero l = refl
get-same a (x ∷ w) rest (suc i) l = get-same a w rest i (omega arith)

pub bounds-at : {X S : Type 0} (next : S → X → S) (count : S → ℕ) (s : S) (before later : List (List X)) (w : List X) (i : ℕ) → i < length w → slice_get (bounds_of next count s (before ++ w ∷ later)) (length (lines_of before) + i) ≡ Some (between (count (fold next s (lines_of before))) (count (fold next s (lines_of before ++ w))))
bounds-at next count s [] later w i l = let none : 0 + i ≡ i = omega arith in rw none (get-same (between (count s) (count (fold next s w))) w _ i l)
bounds-at next count s (v ∷ before) later w i l =
    let end = fold next s v in
    let count-same = length-map v (λ x. between (count s) (count end)) in
    get-past (map (λ x. between (count s) (count end)) v) (bounds_of next count end (before ++ w ∷ later)) (length (lines_of before) + i) _ (omega (arith, length-append v (lines_of before), count-same))
    ∙ bounds-at next count end before later w i l
    ∙ rw (fold-append next s v (lines_of before), append_assoc v (lines_of before) w, fold-append next s v (lines_of before ++ w)) refl

-- what messages that are accepted leave
abbrev left-by : {N : Type 0} → Progress N → List Message → N → Progress N
left-by p ms names = record { state = after_messages p.state ms; names = names; count = p.count + length ms }

-- what lines leave
abbrev pub left : {X N : Type 0} → Network → Reading X N → Progress N → List X → Progress N
left nw reading p lines = left-by p (accepted nw reading p.state p.names lines) (known_after nw reading p.state p.names lines)

progress-more : {X N : Type 0} (nw : Network) (reading : Reading X N) (p : Progress N) (names : N) (o : Option Message) (xs : List X) → ((q : Progress N) → fold (after_line nw reading) q xs ≡ left nw reading q xs) → fold (after_line nw reading) (after_accepted p names o) xs ≡ left-by p (option_map_or (λ m. m ∷ accepted nw reading (effect p.state m) names xs) o (accepted nw reading p.state p.names xs)) (option_map_or (λ m. known_after nw reading (effect p.state m) names xs) o (known_after nw reading p.state p.names xs))
progress-more nw reading p names None xs h = h p
progress-more nw reading p names (Some m) xs h = h _ ∙ ap (λ n. record { state = after_messages (effect p.state m) (accepted nw reading (effect p.state m) names xs); names = known_after nw reading (effect p.state m) names xs; count = n }) (omega arith)

progress-after : {X N : Type 0} (nw : Network) (reading : Reading X N) (p : Progress N) (lines : List X) → fold (after_line nw reading) p lines ≡ left nw reading p lines
progress-after nw reading p [] = ap (λ n. record p { count = n }) (omega arith)
progress-after nw reading p (x ∷ xs) =
    progress-more nw reading p (reading.known p.names x) (accepted_message nw p.state (reading.message p.names x)) xs (λ q. progress-after nw reading q xs)

abbrev pub beginning : {N : Type 0} → State → N → Progress N
beginning st names = record { state = st; names = names; count = 0 }

-- from the beginning lines leave the number of accepted messages
pub progress-all : {X N : Type 0} (nw : Network) (reading : Reading X N) (st : State) (names : N) (lines : List X) → fold (after_line nw reading) (beginning st names) lines ≡ record { state = after_messages st (accepted nw reading st names lines); names = known_after nw reading st names lines; count = length (accepted nw reading st names lines) }
progress-all nw reading st names lines =
    let none : 0 + length (accepted nw reading st names lines) ≡ length (accepted nw reading st names lines) = omega arith in
    rw none at (progress-after nw reading (beginning st names) lines)

pub accepted-at : {X N : Type 0} (nw : Network) (reading : Reading X N) (st : State) (names : N) (before later : List (List X)) (w : List X) (i : ℕ) → i < length w → slice_get (accepted_bounds nw reading st names (before ++ w ∷ later)) (length (lines_of before) + i) ≡ Some (between (length (accepted nw reading st names (lines_of before))) (length (accepted nw reading st names (lines_of before ++ w))))
accepted-at nw reading st names before later w i l =
    rw (progress-all nw reading st names (lines_of before), progress-all nw reading st names (lines_of before ++ w))
    at (bounds-at (after_line nw reading) (λ p. p.count) (beginning st names) before later w i l)
