use Rattle.dep_order.proofs.Words.{◌≡◌, ◌<◌, ◌∙◌, false, sym, ap, subst, length, All, is_of_call, arith, ◌+◌}
use Rattle.dep_order.specs.declared.order.DepartureOrder.TheInside.{Inside}
use Rattle.dep_order.specs.CallNumbering.{StoredNumbers, labels_of}
use Rattle.dep_order.specs.Ordered.{Ordered}
use Rattle.dep_order.proofs.CallLemmas.{set-labels}
use Rattle.dep_order.proofs.InsideLemmas.{call-new, noted-calls, put-ordered}
use Rattle.dep_order.proofs.PlaceLemmas.{put-order}
use Rattle.dep_order.proofs.StoredLemmas.{distinct-keys, new-key}
use Rattle.dep_order.proofs.order.DepartureOrder.put.Goals as goal

pub put-requires-clause-new_call : goal.put-requires-clause-new_call
put-requires-clause-new_call c =
    let k = c.args.departure.now.key in
    call-new c.self.inside.numbered.entries k (subst (λ (o : Ordered). All (λ d. is_of_call k.train k.label d ≡ false) o.departures) (sym c.self.view_is) c.requires.new_call)

pub invariant_of-self : goal.invariant_of-self
invariant_of-self c =
    let a = c.self.inside in
    let d = c.args.departure.now in
    let k = d.key in
    let new = call-new a.numbered.entries k (subst (λ (o : Ordered). All (λ d. is_of_call k.train k.label d ≡ false) o.departures) (sym c.self.view_is) c.requires.new_call) in
    let low = subst (λ (o : Ordered). o.used < length o.entries) (sym c.self.view_is) c.requires.room in
    put-ordered a c.self.invariant c.put.new.self c.set.new.self d low new c.put.ensures.entries c.set.ensures.number

pub returns-clause-departures : goal.returns-clause-departures
returns-clause-departures c =
    let a = c.self.inside in
    let b : Inside = record { numbered = c.put.new.self; numbers = c.set.new.self; used = a.used + 1 } in
    let d = c.args.departure.now in
    let k = d.key in
    let es = a.numbered.entries in
    let new = call-new es k (subst (λ (o : Ordered). All (λ d. is_of_call k.train k.label d ≡ false) o.departures) (sym c.self.view_is) c.requires.new_call) in
    let low = subst (λ (o : Ordered). o.used < length o.entries) (sym c.self.view_is) c.requires.room in
    let apart = rw c.put.ensures.entries at (distinct-keys b.numbered.entries (noted-calls b (invariant_of-self c))) in
    rw (← c.self.view_is, c.put.ensures.entries) (put-order es (distinct-keys es c.numbers_are_lawful.ensures.calls) a.used d low (c.self.invariant.unused a.used (omega arith)) (new-key es k new) apart)

pub returns-clause-room : goal.returns-clause-room
returns-clause-room c =
    let a = c.self.inside in
    let d = c.args.departure.now in
    let is = c.set.ensures.stored in
    record {
      labels = ap labels_of is ∙ set-labels a.numbers d.key.train d.key.label a.used ∙ ap (λ (o : Ordered). o.labels) c.self.view_is;
      spare_trains = ap (λ (k : StoredNumbers). k.spare_trains) is ∙ ap (λ (o : Ordered). o.spare_trains) c.self.view_is;
      spare_calls = ap (λ (k : StoredNumbers). k.spare_calls) is ∙ ap (λ (o : Ordered). o.spare_calls) c.self.view_is;
    }
