use Rattle.waiting_rules.proofs.Words.{None, sym, ◌∙◌, ap, arith, subst, is_in, station_in, all_connecting, ArePartsOf, Connecting}
use Rattle.waiting_rules.specs.Indexed.{AreFirst}
use Rattle.waiting_rules.specs.WaitTable.{WaitsAt}
use Rattle.waiting_rules.proofs.Firsts.{first-small}
use Rattle.waiting_rules.proofs.FitLemmas.{first-fits}
use Rattle.waiting_rules.proofs.WaitLemmas.{wait-first, wait-bound}
use Rattle.waiting_rules.proofs.classes.WaitClass.wait.Goals as goal

pub first-place-requires : goal.first-place-requires
first-place-requires c =
    let none : Connecting = record { route = None; stop = None } in
    rw c.as_slice-first_rules.ensures.value (λ i d l. (c.self.invariant.parts.each i none d l).bound)

pub returns-clause-wait : goal.returns-clause-wait
returns-clause-wait c = λ stops same.
    let a = c.self.inside in
    let held = c.self.invariant in
    let rules = a.rows.now.rules.items in
    let station = station_in a.rows.now.parents.items a.stop in
    let trains = all_connecting a.route a.stop station in
    let parents = same ∙ sym (ap (λ (w : WaitsAt). w.table.parents) c.self.view_is) in
    let slice = sym c.as_slice-first_rules.ensures.value in
    let small = first-small (is_in trains None) rules in
    let all = held.for_all in
    let place = c.first-place.ensures rules trains (subst (λ places. AreFirst rules places) slice held.first_rules) (subst (λ places. ArePartsOf trains places a.parts) slice held.parts) (omega arith) in
    let first = first-fits rules c.args.feeder a.route a.stop station a.for_all c.first-place.result all place in
    rw (c.wait_at.ensures, c.as_slice.ensures.value, ← c.self.view_is) (wait-first stops rules a.rows.now.parents.items c.args.feeder a.route a.stop c.first-place.result parents first)

pub returns-clause-longest : goal.returns-clause-longest
returns-clause-longest c =
    rw (c.wait_at.ensures, c.as_slice.ensures.value) (wait-bound c.self.inside.rows.now.rules.items c.first-place.result c.self.invariant.longest)
