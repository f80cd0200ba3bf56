-- Texts one behind the other.
use Rattle.std.proofs.Common.{◌≡◌, ◌<◌, ◌≤◌, ℕ, zero, suc, ◌+◌, ◌*◌, List, [], ◌++◌, length, arith, ap, sym, ◌∙◌, refl, append_assoc, length-append}
use Rattle.std.proofs.lemmas.List.{append-nil}
use Rattle.feed_gen.specs.Texts.{clock, texts_below}

-- the texts of the numbers up to one more, behind what was there
pub texts_more : (start : List ℕ) (text : ℕ → List ℕ) (n : ℕ) → start ++ texts_below text (n + 1) ≡ (start ++ texts_below text n) ++ text n
unfolding texts_below
texts_more start text n = let e : n + 1 ≡ suc n = omega arith in ap (λ k. start ++ texts_below text k) e ∙ sym (append_assoc start (texts_below text n) (text n))

-- the texts of no number
pub texts_none : (start : List ℕ) (text : ℕ → List ℕ) → start ++ texts_below text 0 ≡ start
unfolding texts_below
texts_none start text = append-nil start

-- texts of at most 240 bytes each
pub length-texts : (text : ℕ → List ℕ) (n : ℕ) → ((k : ℕ) → k < n → length (text k) ≤ 240) → length (texts_below text n) ≤ 240 * n
unfolding texts_below
length-texts text zero each = omega arith
length-texts text (suc n) each =
    omega (arith, length-append (texts_below text n) (text n), length-texts text n (λ k l. each k (omega arith)), each n (omega arith))

-- four texts of at most 60 bytes each
pub length-four : (text : ℕ → List ℕ) → ((k : ℕ) → k < 4 → length (text k) ≤ 60) → length (texts_below text 4) ≤ 240
unfolding texts_below
length-four text each =
    omega (arith, length-append ((([] ++ text 0) ++ text 1) ++ text 2) (text 3), length-append (([] ++ text 0) ++ text 1) (text 2), length-append ([] ++ text 0) (text 1), each 0 (omega arith), each 1 (omega arith), each 2 (omega arith), each 3 (omega arith))

-- a time of day has eight bytes
pub length-clock : (seconds : ℕ) → length (clock seconds) ≡ 8
unfolding clock
length-clock seconds = refl
