use Rattle.waiting_rules.proofs.Words.{sym, ◌∙◌, ap, subst, flag_at, WaitTable, ArePartsOf, all_connecting, some_waits, station_in}
use Rattle.waiting_rules.proofs.FlagLemmas.{some-trains}
use Rattle.waiting_rules.proofs.WaitLemmas.{wait-none}
use Rattle.waiting_rules.proofs.waits.Waits.class.Goals as goal

pub returns-then-not-flag_at-clause-none : goal.returns-then-not-flag_at-clause-none
returns-then-not-flag_at-clause-none c = λ none.
    let route = c.args.connecting in
    let stop = c.args.stop in
    let unmarked = sym (ap (λ flags. flag_at flags stop) c.as_slice.ensures.value) ∙ sym c.flag_at.ensures ∙ c.if-not-flag_at.true in
    wait-none c.args.self.now route stop (sym (ap (λ (t : WaitTable). some_waits t route stop) c.self.view_is) ∙ c.self.invariant.flags.none route stop unmarked)

pub returns-then-not-waits-clause-some : goal.returns-then-not-waits-clause-some
returns-then-not-waits-clause-some c =
    let a = c.self.inside in
    let route = c.args.connecting in
    let stop = c.args.stop in
    let station = c.station-station.ensures ∙ ap (λ ps. station_in ps stop) c.as_slice-2.ensures.value in
    sym c.if-not-waits.true
    ∙ some-trains a.rows.parents.items a.rows.rules.items route stop c.station-station.result c.parts-waits.result.1 station (c.parts-waits.ensures.waits a.rows.rules.items a.rows.first_rules.items c.self.invariant.bounds)
    ∙ ap (λ (t : WaitTable). some_waits t route stop) c.self.view_is

pub returns-then-not-waits-clause-none : goal.returns-then-not-waits-clause-none
returns-then-not-waits-clause-none c = λ none. wait-none c.args.self.now c.args.connecting c.args.stop (sym (returns-then-not-waits-clause-some c))

pub new-requires-clause-parts : goal.new-requires-clause-parts
new-requires-clause-parts c =
    let a = c.self.inside in
    let stop = c.args.stop in
    let station = c.station-station.ensures ∙ ap (λ ps. station_in ps stop) c.as_slice-2.ensures.value in
    subst (λ t. ArePartsOf (all_connecting c.args.connecting stop t) a.rows.first_rules.items c.parts-waits.result.0) station (c.parts-waits.ensures.parts a.rows.rules.items a.rows.first_rules.items c.self.invariant.bounds)

pub returns-clause-some : goal.returns-clause-some
returns-clause-some c =
    let a = c.self.inside in
    let route = c.args.connecting in
    let stop = c.args.stop in
    let station = c.station-station.ensures ∙ ap (λ ps. station_in ps stop) c.as_slice-2.ensures.value in
    sym c.if-not-waits.false
    ∙ some-trains a.rows.parents.items a.rows.rules.items route stop c.station-station.result c.parts-waits.result.1 station (c.parts-waits.ensures.waits a.rows.rules.items a.rows.first_rules.items c.self.invariant.bounds)
    ∙ ap (λ (t : WaitTable). some_waits t route stop) c.self.view_is
