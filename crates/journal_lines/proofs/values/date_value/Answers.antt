use Rattle.std.proofs.lemmas.Str.{IsUtf8-from_ascii}
use Rattle.journal_lines.proofs.Digits.{civil-below, date-ascii, ok-where}
use Rattle.journal_lines.proofs.values.date_value.Goals as goal

pub unwrap-text-requires : goal.unwrap-text-requires
unwrap-text-requires c =
    let utf8 = IsUtf8-from_ascii _ (date-ascii c.args.date (civil-below c.args.date c.requires)) in
    ok-where _ _ _ c.from_utf8.result (rw c.date_digits-digits.ensures utf8) c.from_utf8.ensures.cases
