use Rattle.std.proofs.lemmas.Str.{IsUtf8-from_ascii}
use Rattle.delay_report.proofs.Texts.{date-ascii, ok-where}
use Rattle.delay_report.proofs.objects.date_value.Goals as goal

pub unwrap-text-requires : goal.unwrap-text-requires
unwrap-text-requires c =
    ok-where _ _ _ c.from_utf8.result (rw c.date_text-digits.ensures (IsUtf8-from_ascii _ (date-ascii _))) c.from_utf8.ensures.cases
