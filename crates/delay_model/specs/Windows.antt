-- The windows of `serve`, over lines of any type X: a window ends with its first flush line, with
-- its 256th line, or with the last line of the input.
use Rattle.std.specs.List.{onto_first, list_any, AllPairs}
use Rattle.std.specs.Prelude.{◌≡◌, ℕ, ◌+◌, ◌<◌, ◌≤◌, List, [], ◌∷◌, ◌++◌, Bool, true, false, ◌||◌, nat_eq, if◌then◌else◌, map, flat_map, fold, length, get_or, All}
use Rattle.delay_model.specs.declared.network.Network.{Network}
use Rattle.delay_model.specs.declared.state.State.{State}
use Rattle.delay_model.specs.After.{Reading, after_line}

-- how many lines a window has at most
abbrev pub lines_per_window : ℕ
lines_per_window = 256

-- a line ends its window, of which `before` lines stand before it
abbrev pub ends_window : {X : Type 0} → (X → Bool) → ℕ → X → Bool
ends_window is_flush before x = is_flush x || nat_eq (before + 1) lines_per_window

-- the windows of these lines, where `before` lines of the first window stand before them
abbrev pub windows_from : {X : Type 0} → (X → Bool) → ℕ → List X → List (List X)
windows_from is_flush before [] = []
windows_from is_flush before (x ∷ xs) =
    if ends_window is_flush before x then (x ∷ []) ∷ windows_from is_flush 0 xs
    else onto_first x (windows_from is_flush (before + 1) xs)

unfoldable pub windows : {X : Type 0} → (X → Bool) → List X → List (List X)
windows is_flush xs = windows_from is_flush 0 xs

-- the lines of the windows, joined
abbrev pub lines_of : {X : Type 0} → List (List X) → List X
lines_of ws = flat_map (λ w. w) ws

-- no line of the window but the last one is a flush
abbrev pub HasFlushLast : {X : Type 0} → (X → Bool) → List X → Type 0
HasFlushLast is_flush w = (i : ℕ) (d : _) → i + 1 < length w → is_flush (get_or w i d) ≡ false

-- the window has all the lines that it can have, or one of them is a flush
abbrev pub is_closed : {X : Type 0} → (X → Bool) → List X → Bool
is_closed is_flush w = nat_eq (length w) lines_per_window || list_any is_flush w

-- these are windows of the lines: they are the lines in their order, each has a line and no more
-- lines than it can have, a flush stands at the end of its window, and each window before another
-- one is closed
pub record AreWindows {X : Type 0} (is_flush : X → Bool) (xs : List X)
    (ws : List (List X)) : Type 0 where
  pub joined : lines_of ws ≡ xs
  pub lines : All (λ w. (1 ≤ length w) × (length w ≤ lines_per_window)) ws
  pub flush : All (HasFlushLast is_flush) ws
  pub closed : AllPairs (λ w later. is_closed is_flush w ≡ true) ws

-- in `times` each line is a window of its own
abbrev pub single_windows : {X : Type 0} → List X → List (List X)
single_windows xs = map (λ x. x ∷ []) xs

-- the least and the greatest number of accepted messages after which a query of the window may be
-- answered
pub record Bounds : Type 0 where
  pub lower : ℕ
  pub upper : ℕ

abbrev pub between : ℕ → ℕ → Bounds
between lower upper = record { lower = lower; upper = upper }

-- for each line of the windows, in order, the counts of accepted messages at the start and at the
-- end of its window. `next` is what a line does to what is known (of type S), and `count` the
-- number of messages accepted by then
abbrev pub bounds_of : {X S : Type 0} → (S → X → S) → (S → ℕ) → S → List (List X) → List Bounds
bounds_of next count s [] = []
bounds_of next count s (w ∷ ws) =
    let end = fold next s w in
    map (λ x. record { lower = count s; upper = count end }) w ++ bounds_of next count end ws

-- for each line of the windows the counts of messages that were accepted by the start and by the
-- end of its window
abbrev pub accepted_bounds : {X N : Type 0} → Network → Reading X N → State → N → List (List X)
    → List Bounds
accepted_bounds nw reading st names ws =
    bounds_of (after_line nw reading) (λ p. p.count) (record {
      state = st;
      names = names;
      count = 0;
    }) ws

-- an answer to a query: to whom, by a name of type C, and after how many accepted messages
pub record Answer (C : Type 0) : Type 0 where
  pub client : C
  pub count : ℕ

-- no client is shown an older state after a newer one: of two answers to one client the later
-- counts no fewer messages
abbrev pub CountsDoNotFall : {C : Type 0} → List (Answer C) → Type 0
CountsDoNotFall answers = AllPairs (λ a b. a.client ≡ b.client → a.count ≤ b.count) answers
