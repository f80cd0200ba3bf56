use Rattle.std.proofs.lemmas.Str.{IsUtf8-from_ascii}
use Rattle.journal_lines.proofs.Digits.{ok-where, time-ascii}
use Rattle.journal_lines.proofs.values.time_value.Goals as goal

pub unwrap-text-requires : goal.unwrap-text-requires
unwrap-text-requires c =
    let utf8 = IsUtf8-from_ascii _ (time-ascii c.args.seconds c.requires) in
    ok-where _ _ _ c.from_utf8.result (rw c.time_digits-digits.ensures utf8) c.from_utf8.ensures.cases
