use Rattle.std.proofs.Common.{[], ◌∷◌, arith}
use Rattle.std.proofs.lemmas.List.Elements.{Contains-append_left}
use Rattle.journey_watch.proofs.TrainLemmas.{noted-kept, noted-added}
use Rattle.journey_watch.proofs.trains.TrainJourneys.note.Goals as goal

pub returns-clause-added : goal.returns-clause-added
returns-clause-added c =
    let long = c.in_ok-grow.ensures.long in
    let named = c.get-place.ensures in
    noted-added c.grow.new.rows.items c.get-place.result c.args.train c.index_mut.result.now c.push.new.self named (omega (arith, long, named)) c.index_mut.ensures.value
    c.args.journey c.in_ok-push.ensures.items

pub returns-clause-kept : goal.returns-clause-kept
returns-clause-kept c = λ other n there.
    let long = c.in_ok-grow.ensures.long in
    let named = c.get-place.ensures in
    noted-kept c.grow.new.rows.items c.get-place.result c.args.train c.index_mut.result.now c.push.new.self named (omega (arith, long, named)) c.index_mut.ensures.value
    (λ m h. rw c.in_ok-push.ensures.items (Contains-append_left c.index_mut.result.now.items (c.args.journey ∷ []) m h)) other n (rw (c.grow.ensures.kept other, c.self.view_is) there)

pub returns-in_err-push-clause-kept : goal.returns-in_err-push-clause-kept
returns-in_err-push-clause-kept c = λ other n there.
    let long = c.in_ok-grow.ensures.long in
    let named = c.get-place.ensures in
    noted-kept c.grow.new.rows.items c.get-place.result c.args.train c.index_mut.result.now c.push.new.self named (omega (arith, long, named)) c.index_mut.ensures.value
    (λ m h. rw c.in_err-push.ensures.items h) other n (rw (c.grow.ensures.kept other, c.self.view_is) there)
