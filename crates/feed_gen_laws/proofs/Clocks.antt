-- Times of day as texts.
use Rattle.std.proofs.Common.{◌≡◌, ◌<◌, ℕ, ◌/◌, ◌%◌, Some, ap, ◌∙◌, arith}
use Rattle.mt_base.specs.Texts.{seconds_of}
use Rattle.message_reader.specs.Spelled.{time_text}
use Rattle.message_reader.proofs.SpelledLemmas.{times_back}
use Rattle.feed_gen.specs.Texts.{clock}

-- below 100 hours a clock shows the time as a message spells it
pub clock-spelled : (s : ℕ) → s < 360000 → clock s ≡ time_text s
unfolding clock time_text
clock-spelled s small =
    let hours : s / 3600 / 10 % 10 ≡ s / 3600 / 10 = omega arith in
    let minutes : s / 60 % 60 / 10 % 10 ≡ s / 60 % 60 / 10 = omega arith in
    let seconds : s % 60 / 10 % 10 ≡ s % 60 / 10 = omega arith in
    rw (hours, minutes, seconds)

-- so it is read as that time
pub seconds-clock : (s : ℕ) → s < 360000 → seconds_of (clock s) ≡ Some s
seconds-clock s small = ap seconds_of (clock-spelled s small) ∙ times_back s (omega arith)
