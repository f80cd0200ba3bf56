use Rattle.feed_gen.proofs.Bounds.{short-made}
use Rattle.feed_gen.proofs.feed.GenFeedFeed.table.Goals as goal
use Rattle.feed_gen.proofs.feed.GenFeedFeed.table.Goals.{in-Ok, in-Err}

pub returns-clause-small : goal.returns-clause-small
returns-clause-small c = elim c.match-table_named.branch [
  | in-Ok w ↦ rw w.result-is (short-made (λ v. v.items) _ c.self.inside.trains c.args.folder.now c.args.name.now c.self.invariant w.in-Ok.ensures)
  | in-Err w ↦ rw w.result-is tt
]
