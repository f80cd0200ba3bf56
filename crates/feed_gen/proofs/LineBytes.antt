-- The bytes of single lines.
use Rattle.std.proofs.Common.{◌<◌, ◌≤◌, ℕ, ◌+◌, ◌%◌, ◌/◌, ◌^◌, List, [], ◌∷◌, ◌++◌, length, codes, arith, refl, length-append}
use Rattle.std.proofs.lemmas.Fmt.{decimal_by_steps}
use Rattle.std.specs.Prelude.{decimal}
use Rattle.mt_io.specs.Steps.{HasNoLf}
use Rattle.mt_io.proofs.LineFacts.{no_lf_append, no_lf_cons}
use Rattle.feed_gen.specs.Lines.{InputLine, flush, forecast, query, text_of}
use Rattle.feed_gen.specs.Texts.{clock}
use Rattle.feed_gen.specs.Trains.{forecast_time, stop_of}
use Rattle.feed_gen.proofs.Bounds.{length-number, stop-small}
use Rattle.feed_gen.proofs.RowLemmas.{length-clock}

-- a number has no LF
no_lf_decimal : (n : ℕ) → n < 2 ^ 64 → HasNoLf (decimal n)
no_lf_decimal = decimal_by_steps (λ _ ds. HasNoLf ds)
    (λ n small. no_lf_cons (48 + n) [] (omega arith) refl)
    (λ n ds large none. no_lf_append ds ((48 + n % 10) ∷ []) none (no_lf_cons (48 + n % 10) [] (omega arith) refl))

no_lf_digits : (n : ℕ) (rest : List ℕ) → HasNoLf rest → HasNoLf ((48 + n / 10 % 10) ∷ (48 + n % 10) ∷ rest)
no_lf_digits n rest none = no_lf_cons (48 + n / 10 % 10) ((48 + n % 10) ∷ rest) (omega arith) (no_lf_cons (48 + n % 10) rest (omega arith) none)

no_lf_clock : (seconds : ℕ) → HasNoLf (clock seconds)
unfolding clock
no_lf_clock seconds = no_lf_digits (seconds / 3600) _ (no_lf_cons 58 _ (omega arith) (no_lf_digits (seconds / 60 % 60) _ (no_lf_cons 58 _ (omega arith) (no_lf_digits (seconds % 60) [] refl))))

-- the line is for a train of a number that may be
abbrev pub IsKnown : InputLine → Type 0
IsKnown (forecast train) = train < 100000
IsKnown (query train) = train < 100000
IsKnown flush = Unit {0}

-- the line has no LF and is short
pub record IsPlain (x : InputLine) : Type 0 where
  pub no_lf : HasNoLf (text_of x)
  pub short : length (text_of x) ≤ 200

pub plain : (x : InputLine) → IsKnown x → IsPlain x
unfolding text_of
plain (forecast train) known =
    let a = codes "{\"v\":1,\"type\":\"forecast\",\"trip\":\"G" in
    let b = codes "\",\"date\":\"20260105\",\"call\":1,\"event\":\"arr\",\"time\":\"" in
    let d = decimal train in
    let t = clock (forecast_time train) in
    record {
      no_lf = no_lf_append a _ refl (no_lf_append d _ (no_lf_decimal train (omega arith)) (no_lf_append b _ refl (no_lf_append t _ (no_lf_clock (forecast_time train)) refl)));
      short = omega (arith, length-append a (d ++ (b ++ (t ++ codes "\"}"))), length-append d (b ++ (t ++ codes "\"}")), length-append b (t ++ codes "\"}"), length-append t (codes "\"}"), length-number train (omega arith), length-clock (forecast_time train));
    }
plain (query train) known =
    let a = codes "{\"v\":1,\"type\":\"query\",\"client\":\"q\",\"from\":\"S" in
    let b = codes "\",\"to\":\"S" in
    let c = codes "\",\"date\":\"20260105\",\"time\":\"04:00:00\"}" in
    let p = stop_of train 0 in
    let q = stop_of train 3 in
    record {
      no_lf = no_lf_append a _ refl (no_lf_append (decimal p) _ (no_lf_decimal p (omega arith)) (no_lf_append b _ refl (no_lf_append (decimal q) _ (no_lf_decimal q (omega arith)) refl)));
      short = omega (arith, length-append a (decimal p ++ (b ++ (decimal q ++ c))), length-append (decimal p) (b ++ (decimal q ++ c)), length-append b (decimal q ++ c), length-append (decimal q) c, length-number p (stop-small train 0), length-number q (stop-small train 3));
    }
plain flush known = record { no_lf = refl; short = omega arith }
