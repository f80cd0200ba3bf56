-- In the input for so many trains no query shares its window with a message.
use Rattle.std.proofs.Common.{◌≡◌, ◌≤◌, ℕ, zero, suc, ◌+◌, Bool, true, false, cond, List, [], ◌∷◌, ◌++◌, map, ap, inl, inr, refl}
use Rattle.std.specs.List.{All, list_any, onto_first}
use Rattle.std.proofs.lemmas.Bool.{cases_Bool}
use Rattle.std.proofs.lemmas.List.Elements.{All-cons, All-nil}
use Rattle.delay_model.specs.Windows.{ends_window, windows, windows_from}
use Rattle.feed_gen.specs.Laws.{line_read}
use Rattle.feed_gen.specs.Lines.{InputLine, ends_group, flush, forecast, input, lines_from, query}
use Rattle.feed_gen.proofs.InputLines.{input-lines}
use Rattle.feed_gen_laws.proofs.SaidLines.{lines-said}
use Rattle.mt_io.specs.Lines.{Line, lines_of}
use Rattle.query_crew.specs.Windows.{is_flush, says_flush, windows_of}
use Rattle.window_service.specs.SameSums.{AreApart, is_query, says_query}

-- the windows are apart, and the first one has no query
Fit : List (List Line) → Type 0
Fit [] = Unit {0}
Fit (w ∷ ws) = (list_any is_query w ≡ false) × All AreApart ws

fit-apart : (ws : List (List Line)) → Fit ws → All AreApart ws
unfolding Fit
fit-apart [] h = All-nil AreApart
fit-apart (w ∷ ws) h = All-cons AreApart w ws (inl h.0) h.1

-- however many lines of the first window stand before these lines
abbrev AreFit : List InputLine → Type 0
AreFit xs = (before : ℕ) → Fit (windows_from is_flush before (map line_read xs))

-- a line more in the first window
onto-fit : (x : Line) (ws : List (List Line)) → is_query x ≡ false → Fit ws → Fit (onto_first x ws)
unfolding Fit
onto-fit x [] no_query h = (rw no_query refl, All-nil AreApart)
onto-fit x (w ∷ ws) no_query h = (rw no_query h.0, h.1)

-- a forecast more, which may end its window
forecast-more : (train : ℕ) (xs : List InputLine) → AreFit xs → AreFit (forecast train ∷ xs)
unfolding Fit
forecast-more train xs h before =
    let x = line_read (forecast train) in
    let no_query : is_query x ≡ false = ap says_query (lines-said (forecast train)) in
    elim (cases_Bool (ends_window is_flush before x)) [
      | inl ends ↦ rw ends (rw no_query refl, fit-apart _ (h 0))
      | inr goes_on ↦ rw goes_on (onto-fit x _ no_query (h (before + 1)))
    ]

-- a query more between two flushes: the window ends before it and just behind it
query-more : (train : ℕ) (xs : List InputLine) → AreFit xs → AreFit (flush ∷ query train ∷ flush ∷ xs)
unfolding Fit
query-more train xs h before =
    let flushes : is_flush (line_read flush) ≡ true = ap says_flush (lines-said flush) in
    let asks : is_flush (line_read (query train)) ≡ false = ap says_flush (lines-said (query train)) in
    let no_query : is_query (line_read flush) ≡ false = ap says_query (lines-said flush) in
    let apart : AreApart (line_read (query train) ∷ line_read flush ∷ []) = inr (rw (lines-said (query train), lines-said flush) refl) in
    rw (flushes, asks) (rw no_query refl, All-cons AreApart _ _ apart (fit-apart _ (h 0)))

-- the lines with a train before others
train-more : (train : ℕ) (b : Bool) (xs : List InputLine) → AreFit xs → AreFit (cond b (forecast train ∷ flush ∷ query train ∷ flush ∷ []) (forecast train ∷ []) ++ xs)
train-more train true xs h = forecast-more train (flush ∷ query train ∷ flush ∷ xs) (query-more train xs h)
train-more train false xs h = forecast-more train xs h

-- the lines of so many trains, from one on
lines-fit : (trains train count : ℕ) → AreFit (lines_from trains train count)
unfolding lines_from Fit
lines-fit trains train zero = λ before. tt
lines-fit trains train (suc count) = train-more train (ends_group trains train) _ (lines-fit trains (train + 1) count)

-- in each window of the input no query is asked, or no message is said
pub made-apart : (trains : ℕ) → trains ≤ 100000 → All AreApart (windows_of (lines_of true (input trains)))
unfolding windows
made-apart trains few = rw (input-lines trains few) (fit-apart _ (lines-fit trains 0 trains 0))
