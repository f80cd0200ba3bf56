-- Which heads have a line that is not too long.
use Rattle.std.specs.Prelude.{◌<◌, ◌^◌, IfSome, length}
use Rattle.journal_lines.specs.declared.heads.Head.{Head}
use Rattle.mt_base.specs.Options.{IsInRange}

-- the text of its zone, if it has one, has fewer than 174,000 bytes; its number of days has 32
-- bits, and its options are in their ranges
pub record HasShortZone (head : Head) : Type 0 where
  pub days : head.days < 2 ^ 32
  pub options : IsInRange head.opts
  pub zone : IfSome head.zone (λ z. length z < 174000)
