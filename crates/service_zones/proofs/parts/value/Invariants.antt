use Rattle.std.proofs.Common.{◌≡◌, ◌+◌, ◌*◌, ◌-◌, ◌<◌, ◌≤◌, drop}
use Rattle.std.specs.List.{fold}
use Rattle.service_zones.specs.ZoneTexts.{value_of}
use Rattle.service_zones.proofs.parts.value.Given as goal

-- what the digits that are left make of the value so far, and how large that is
abbrev pub invariant-loop-digit : goal.invariant-loop-digit
invariant-loop-digit l = record {
  value : fold (λ n digit. 10 * n + (digit - 48)) l.value (drop l.digit-index l.digits) ≡ value_of l.digits;
  none : l.digit-index < 1 → l.value ≤ 0;
  one : l.digit-index < 2 → l.value ≤ 255;
  two : l.digit-index < 3 → l.value ≤ 2805;
}
