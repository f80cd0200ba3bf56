-- How long the header of a journal is at most.
use Rattle.std.proofs.Common.{ℕ, ◌<◌, ◌≤◌, Option, Some, None, List, [], ◌∷◌, length, arith}
use Rattle.std.proofs.Common.{length-append}
use Rattle.std.specs.Prelude.{IfSome}
use Rattle.serde_json.specs.Written.{compact_text}
use Rattle.journal_lines.specs.declared.heads.Head.{Head}
use Rattle.journal_lines.specs.Lines.{head_object, text_of_head, zone_or_null}
use Rattle.journal_replay.specs.Journals.{CanBeHead}
use Rattle.journal_laws.proofs.Sizes.{data-size, date-size, label-size, quoted-size, size}
use Rattle.journal_laws.specs.Heads.{HasShortZone}

zone-size : (o : Option (List ℕ)) → IfSome o (λ z. length z < 174000) → size (zone_or_null o) ≤ 1044002
zone-size None few = omega arith
zone-size (Some z) few = omega (arith, quoted-size z, few)

object-size : (head : Head) → HasShortZone head → size (head_object head) ≤ 1045000
object-size head short =
    omega (
      arith,
      label-size head.opts.change (omega (arith, short.options.change)),
      label-size head.days short.days,
      date-size head.first,
      label-size 1 (omega arith),
      label-size head.opts.overrides (omega (arith, short.options.overrides)),
      label-size head.opts.slack (omega (arith, short.options.slack)),
      label-size head.opts.spare_calls (omega (arith, short.options.spare_calls)),
      label-size head.opts.spare_trains (omega (arith, short.options.spare_trains)),
      label-size head.opts.stop (omega (arith, short.options.stop)),
      label-size head.opts.window (omega (arith, short.options.window)),
      zone-size head.zone short.zone,
    )

header-size : (head : Head) → HasShortZone head → length (text_of_head head) ≤ 1045001
unfolding text_of_head
header-size head short = omega (arith, length-append (compact_text (head_object head)) (10 ∷ []), data-size (head_object head), object-size head short)

pub can-be-head : (head : Head) → HasShortZone head → CanBeHead head
can-be-head head short = record { short = omega (arith, header-size head short) }
