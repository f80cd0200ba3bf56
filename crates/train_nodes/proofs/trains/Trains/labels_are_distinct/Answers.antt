use Rattle.train_nodes.proofs.Words.{slice_get-get_or}
use Rattle.train_nodes.proofs.ReadLemmas.{distinct-seen}
use Rattle.train_nodes.proofs.trains.Trains.labels_are_distinct.Goals as goal

pub returns : goal.returns
returns c = record { labels = λ k d l. rw (slice_get-get_or c.args.self.now.trains k d l) at (distinct-seen _ _ k c.self.invariant c.self.view_is) }
