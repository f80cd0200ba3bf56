use Rattle.std.proofs.Common.{◌≡◌, ◌∙◌, ◌<◌, ◌^◌, arith}
use Rattle.std.proofs.lemmas.Str.{IsUtf8-from_ascii}
use Rattle.delay_report.proofs.Texts.{clock-ascii, ok-where}
use Rattle.delay_report.specs.Clocks.{clock}
use Rattle.delay_report.proofs.objects.clock_value.Goals as goal

pub unwrap-text-requires : goal.unwrap-text-requires
unwrap-text-requires c =
    let text : c.deref.result.now ≡ clock c.args.seconds = c.deref.ensures.value ∙ c.in_ok-write_clock.ensures in
    let fits : c.args.seconds < 2 ^ 32 = omega arith in
    ok-where _ _ _ c.from_utf8.result (rw text (IsUtf8-from_ascii _ (clock-ascii _ fits))) c.from_utf8.ensures.cases
