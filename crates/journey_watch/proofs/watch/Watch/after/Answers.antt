use Rattle.journey_watch.proofs.DueLemmas.{are-due, beside-still}
use Rattle.journey_watch.proofs.watch.Watch.after.Goals as goal

pub renew_all-requires-clause-due : goal.renew_all-requires-clause-due
renew_all-requires-clause-due g c =
    rw (c.deref-3.ensures.value, c.deref-2.ensures.value)
    (are-due c.self.inside.room c.self.inside.trains c.self.inside.journeys.items c.self.invariant c.args.t.now.changed c.in_ok-trains.trains.items
    c.in_ok-due.due.items (λ n h. c.in_ok-trains.ensures.each n (rw c.changed.ensures h)) (λ n h. rw (← c.changed.ensures) (c.in_ok-trains.ensures.only n h))
    (λ n h. c.in_ok-due.ensures.each n (rw c.deref.ensures.value h)) c.in_ok-due.ensures.order)

pub invariant_of-self : goal.invariant_of-self
invariant_of-self g c = beside-still c.self.inside.room c.self.inside.trains c.self.inside.journeys.items c.renew_all.new.journeys.items c.renew_all.ensures.rides c.self.invariant

pub invariant_of-self-2 : goal.invariant_of-self-2
invariant_of-self-2 g c = beside-still c.self.inside.room c.self.inside.trains c.self.inside.journeys.items c.renew_all.new.journeys.items c.renew_all.ensures.rides c.self.invariant
