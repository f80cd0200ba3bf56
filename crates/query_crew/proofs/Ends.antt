-- Where windows end.
use Rattle.query_crew.proofs.Words.{◌≡◌, ◌∙◌, ℕ, zero, suc, ◌<◌, ◌≤◌, List, [], ◌∷◌, ◌++◌, length, Bool, true, false, Result, Ok, Err, refl, sym, ap, arith, length-append, append-nil, All-append, All-cons, All-nil, All, list_any, lines_of, BadLine, Line, Names, window_line, is_flush_line, is_flush, windows_of, with_last, AreReadWindows}
use Rattle.std.proofs.Common.{get_or, nat_eq}
use Rattle.std.proofs.Math.ListN.{get_or-append}
use Rattle.std.proofs.lemmas.Grind.{flat_map-append}
use Rattle.std.proofs.lemmas.List.Folds.{list_any-append}
use Rattle.std.specs.List.{AllPairs}
use Rattle.delay_model.specs.Windows.{HasFlushLast, is_closed, AreWindows}
use Rattle.delay_model.proofs.WindowLemmas.{windows-are}
use Rattle.message_reader.specs.declared.wire.Line.{Line as Spoken}
use Rattle.message_reader.specs.declared.wire.Line.TheVariants as says
use Rattle.query_crew.specs.Windows.{says_flush, IsClosedWindow, IsOpenWindow}

-- a flush stands in a window as a flush
pub shown-flush : (names : Names) (said : Result Spoken BadLine) → is_flush_line (window_line names said) ≡ says_flush said
shown-flush names (Ok (says.Message w)) = refl
shown-flush names (Ok (says.Query q)) = refl
shown-flush names (Ok says.Flush) = refl
shown-flush names (Err b) = refl

-- no element passes a test that the list does not pass
none-at : {X : Type 0} (p : X → Bool) (xs : List X) (i : ℕ) (d : X) → list_any p xs ≡ false → i < length xs → p (get_or xs i d) ≡ false
none-at p [] i d none l = absurd (omega arith)
none-at p (x ∷ xs) zero d none l = grind arith
none-at p (x ∷ xs) (suc i) d none l = none-at p xs i d (grind arith) (omega arith)

-- a flush stands last at most, where none stands before
pub flush-last : {X : Type 0} (p : X → Bool) (xs : List X) (x : X) → list_any p xs ≡ false → HasFlushLast p (xs ++ x ∷ [])
flush-last p xs x none i d l =
    let within : i < length xs = omega (arith, length-append xs (x ∷ []), l) in
    ap p (get_or-append xs (x ∷ []) d i within) ∙ none-at p xs i d none within

-- without a flush, no flush stands before the last line
pub flush-none : {X : Type 0} (p : X → Bool) (xs : List X) → list_any p xs ≡ false → HasFlushLast p xs
flush-none p xs none i d l = none-at p xs i d none (omega arith)

-- one more line that is no flush
pub none-more : {X : Type 0} (p : X → Bool) (xs : List X) (x : X) → list_any p xs ≡ false → p x ≡ false → list_any p (xs ++ x ∷ []) ≡ false
none-more p xs x none other = rw (list_any-append, none, other) refl

-- lines without a flush, and then a flush
pub closed-by-flush : (xs : List Line) (x : Line) → length xs < 256 → list_any is_flush xs ≡ false → is_flush x ≡ true → IsClosedWindow (xs ++ x ∷ [])
closed-by-flush xs x few none flush =
    let count = length-append xs (x ∷ []) in
    let any : list_any is_flush (xs ++ x ∷ []) ≡ true = rw (list_any-append, none, flush) refl in
    record {
      some = omega arith;
      most = omega arith;
      flush = flush-last is_flush xs x none;
      closed = grind arith;
    }

-- as many lines without a flush as a window can have
pub closed-by-count : (xs : List Line) → nat_eq (length xs) 256 ≡ true → list_any is_flush xs ≡ false → IsClosedWindow xs
closed-by-count xs full none =
    let count : length xs ≡ 256 = grind arith in
    record { some = omega arith; most = omega arith; flush = flush-none is_flush xs none; closed = grind arith }

-- fewer lines, without a flush
pub open-lines : (xs : List Line) → length xs < 256 → list_any is_flush xs ≡ false → IsOpenWindow xs
open-lines xs few none =
    record { few = few; flush = flush-none is_flush xs none; not_closed = grind arith }

-- each window before another one is closed
closed-pairs : (ws : List (List Line)) (last : List (List Line)) → length last ≤ 1 → All IsClosedWindow ws → AllPairs (λ w later. is_closed is_flush w ≡ true) (ws ++ last)
closed-pairs ws last one closed i j d less l =
    let within : i < length ws = omega (arith, length-append ws last, l) in
    let here = closed i d within in
    let at = get_or-append ws last d i within in
    ap (is_closed is_flush) at ∙ here.closed

last-alone : (ws : List (List Line)) (x : Line) (xs : List Line) → AreReadWindows ws (x ∷ xs) → AreWindows is_flush (lines_of ws ++ x ∷ xs) (ws ++ (x ∷ xs) ∷ [])
last-alone ws x xs h =
    let rest = h.rest in
    let size : (1 ≤ length (x ∷ xs)) × (length (x ∷ xs) ≤ 256) = (omega arith, omega (arith, rest.few)) in
    record {
      joined = flat_map-append (λ (w : List Line). w) ws ((x ∷ xs) ∷ []) ∙ ap (λ (ls : List Line). lines_of ws ++ ls) (append-nil (x ∷ xs));
      lines = All-append (λ w. (1 ≤ length w) × (length w ≤ 256)) ws ((x ∷ xs) ∷ []) (λ k d l. let c = h.closed k d l in (c.some, c.most))
          (All-cons (λ w. (1 ≤ length w) × (length w ≤ 256)) (x ∷ xs) [] size (All-nil (λ w. (1 ≤ length w) × (length w ≤ 256))));
      flush = All-append (HasFlushLast is_flush) ws ((x ∷ xs) ∷ []) (λ k d l. let c = h.closed k d l in c.flush)
          (All-cons (HasFlushLast is_flush) (x ∷ xs) [] rest.flush (All-nil (HasFlushLast is_flush)));
      closed = closed-pairs ws ((x ∷ xs) ∷ []) (omega arith) h.closed;
    }

none-left : (ws : List (List Line)) → All IsClosedWindow ws → AreWindows is_flush (lines_of ws ++ []) ws
none-left ws closed =
    record {
      joined = sym (append-nil (lines_of ws));
      lines = λ k d l. let c = closed k d l in (c.some, c.most);
      flush = λ k d l. let c = closed k d l in c.flush;
      closed = λ i j d less l. let c = closed i d (omega arith) in c.closed;
    }

-- windows that were read one after the other are the windows of their lines
pub read-windows : (ws : List (List Line)) (last : List Line) → AreReadWindows ws last → windows_of (lines_of ws ++ last) ≡ with_last ws last
read-windows ws [] h = sym ((windows-are is_flush (lines_of ws ++ []) ws).0 (none-left ws h.closed))
read-windows ws (x ∷ xs) h = sym ((windows-are is_flush (lines_of ws ++ x ∷ xs) (ws ++ (x ∷ xs) ∷ [])).0 (last-alone ws x xs h))
