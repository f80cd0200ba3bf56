use Rattle.waiting_rules.proofs.Words.{None, arith, is_in, all_connecting, station_in, sym, subst, ArePartsOf, Connecting}
use Rattle.waiting_rules.specs.Indexed.{AreFirst}
use Rattle.waiting_rules.proofs.Firsts.{first-small}
use Rattle.waiting_rules.proofs.classes.WaitClass.new.Goals as goal

pub first-requires : goal.first-requires
first-requires c =
    let none : Connecting = record { route = None; stop = None } in
    rw c.as_slice-first_rules.ensures.value (λ i d l. (c.requires.parts.each i none d l).bound)

pub invariant_of-result : goal.invariant_of-result
invariant_of-result c =
    let rows = c.args.rows.now in
    let rules = rows.rules.items in
    let trains = all_connecting c.args.route c.args.stop (station_in rows.parents.items c.args.stop) in
    let same = sym c.as_slice-first_rules.ensures.value in
    let small = first-small (is_in trains None) rules in
    let first = c.first.ensures rules trains (subst (λ places. AreFirst rules places) same c.requires.first_rules) (subst (λ places. ArePartsOf trains places c.args.parts) same c.requires.parts) (omega arith) in
    record {
      longest = c.requires.longest;
      first_rules = c.requires.first_rules;
      parts = c.requires.parts;
      for_all = omega arith;
    }
