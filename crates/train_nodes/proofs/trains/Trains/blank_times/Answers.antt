use Rattle.train_nodes.proofs.Words.{map-map, ◌≡◌, map, length-replicate, IfOk-weaker, Train, blank_trains, AreSized}
use Rattle.train_nodes.proofs.StoredLemmas.{trains-labels}
use Rattle.train_nodes.proofs.trains.Trains.blank_times.Goals as goal

pub returns-clause-sized : goal.returns-clause-sized
returns-clause-sized c =
    IfOk-weaker c.blank.result (λ times. times ≡ blank_trains c.self.inside.slots) (AreSized (map (λ (t : Train). t.next_label) c.args.self.now.trains))
    (λ times e. rw (e, ← c.self.view_is, trains-labels c.self.inside.calls.items c.self.inside.records.items _ c.self.invariant.records_count) (simp (map-map, length-replicate))) c.blank.ensures
