use Rattle.std.proofs.lemmas.List.Kept.{AllPairs-filter}
use Rattle.mt_base.specs.Order.{is_same}
use Rattle.delay_model.specs.Edges.{edges, DifferInEnds}
use Rattle.delay_model.specs.Timing.{incoming}
use Rattle.delay_model.proofs.OneEdge.{one-edge}
use Rattle.delay_model.proofs.laws.no_edge_comes_twice.Goals as goal

pub returns-clause-all : goal.returns-clause-all
returns-clause-all c = one-edge c.args.nw.now c.args.st.now (λ i d l. (c.requires i d l).labels)

pub returns-clause-incoming : goal.returns-clause-incoming
unfolding incoming
returns-clause-incoming c = λ k.
    AllPairs-filter DifferInEnds (λ e. is_same e.to k) (edges c.args.nw.now c.args.st.now)
    (one-edge c.args.nw.now c.args.st.now (λ i d l. (c.requires i d l).labels))
