use Rattle.dep_order.proofs.Words.{◌≡◌, ◌≢◌, true, subst, leaves_before, departures_in_order}
use Rattle.std.specs.List.{AllPairs}
use Rattle.dep_order.specs.Ordered.{Ordered}
use Rattle.dep_order.proofs.OneOrder.{ascends-pairs}
use Rattle.dep_order.proofs.PlaceLemmas.{different-keys}
use Rattle.dep_order.proofs.SortedLemmas.{ascends}
use Rattle.dep_order.proofs.StoredLemmas.{distinct-keys}
use Rattle.dep_order.proofs.order.DepartureOrder.departures_are_in_order.Goals as goal

pub returns-clause-ascends : goal.returns-clause-ascends
returns-clause-ascends c =
    let es = c.self.inside.numbered.entries in
    let apart = distinct-keys es c.numbers_are_lawful.ensures.calls in
    subst (λ (o : Ordered). AllPairs (λ a b. leaves_before a b ≡ true) o.departures) c.self.view_is (ascends-pairs (departures_in_order es) (ascends es apart))

pub returns-clause-keys : goal.returns-clause-keys
returns-clause-keys c =
    let es = c.self.inside.numbered.entries in
    let apart = distinct-keys es c.numbers_are_lawful.ensures.calls in
    subst (λ (o : Ordered). AllPairs (λ a b. a.key ≢ b.key) o.departures) c.self.view_is (different-keys es apart)
