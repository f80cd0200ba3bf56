use Rattle.std.proofs.Common.{◌≡◌, ℕ, ℤ, List, pos, map, None, arith, ◌∙◌, ap}
use Rattle.std.proofs.lemmas.Int.{ints}
use Rattle.std.specs.List.{range_with_len}
use Rattle.service_zones.specs.Bases.{base, day_of_wrong_length}
use Rattle.service_zones.proofs.BaseLemmas.{between, one-more, are-bases, seconds-are}
use Rattle.service_zones.proofs.zone.Zone.bases.Goals as goal

pub overflow_cast-base : goal.overflow_cast-base
overflow_cast-base c =
    let even : day_of_wrong_length c.args.self.now c.args.first c.args.days ≡ None = cc in
    let within = between c.args.self.now c.args.first c.args.days even c.loop-day.day c.loop-day-test.true in
    (omega (arith, ints, c.base.ensures.value, within.0), omega (arith, ints, c.base.ensures.value, within.0))

pub loop-day-preserved : goal.loop-day-preserved
loop-day-preserved c =
    let even : day_of_wrong_length c.args.self.now c.args.first c.args.days ≡ None = cc in
    let within = between c.args.self.now c.args.first c.args.days even c.loop-day.day c.loop-day-test.true in
    let now : pos c.new-in-loop-day.result ≡ base c.args.self.now c.args.first c.loop-day.day = omega (arith, ints, c.base.ensures.value, within.0, c.new-in-loop-day.ensures) in
    rw (rw c.in_ok-push.was at c.push.ensures.items) (one-more (base c.args.self.now c.args.first) c.loop-day.bases.items c.loop-day.day c.new-in-loop-day.result c.loop-day.invariant now)

-- the bases of all days, where so many were pushed
so-many : (f : ℕ → ℤ) (found : List ℕ) {day days : ℕ} → day ≡ days → map pos found ≡ map f (range_with_len 0 day) → map pos found ≡ map f (range_with_len 0 days)
so-many f found all same = same ∙ ap (λ n. map f (range_with_len 0 n)) all

pub returns-clause-seconds : goal.returns-clause-seconds
returns-clause-seconds c =
    let all : c.loop-day.day ≡ c.args.days = omega (arith, c.loop-day-test.false, c.loop-day.auto.day-end) in
    rw c.build.ensures (seconds-are c.loop-day.bases.items _ (so-many (base c.args.self.now c.args.first) c.loop-day.bases.items all c.loop-day.invariant))

pub returns-clause-steps : goal.returns-clause-steps
returns-clause-steps c =
    let even : day_of_wrong_length c.args.self.now c.args.first c.args.days ≡ None = cc in
    let all : c.loop-day.day ≡ c.args.days = omega (arith, c.loop-day-test.false, c.loop-day.auto.day-end) in
    rw c.build.ensures (are-bases c.args.self.now c.args.first c.args.days even c.loop-day.bases.items (so-many (base c.args.self.now c.args.first) c.loop-day.bases.items all c.loop-day.invariant))
