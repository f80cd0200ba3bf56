use Rattle.std.proofs.Common.{refl}
use Rattle.delay_model.specs.Refusals.{against_rank}
use Rattle.state_laws.proofs.InRank.{exactly-against, edge-shown, not-against, forward-of}
use Rattle.state_laws.proofs.rank.a_message_against_rank_makes_such_an_edge.Goals as goal

pub returns-clause-exactly : goal.returns-clause-exactly
returns-clause-exactly c = λ m well comes.
    exactly-against c.args.nw.now c.args.st.now m c.requires well comes (against_rank c.args.nw.now c.args.st.now m) refl

pub returns-clause-shown : goal.returns-clause-shown
returns-clause-shown c = λ m r e. edge-shown c.args.nw.now c.args.st.now m r e

pub returns-clause-forward : goal.returns-clause-forward
returns-clause-forward c = λ e. (forward-of e, not-against e)
