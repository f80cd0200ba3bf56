use Rattle.model_examples.proofs.Words.{refl, is_same, is_same_node, is_before, change, wait, events, transfer, effect, time, time_within, local, incoming, cap}
use Rattle.model_examples.proofs.Compute.{no_overrides, with_override}
use Rattle.cause_examples.proofs.ComputeChains.{why-is}
use Rattle.cause_laws.specs.Causes.{due, capper, cause_over}
use Rattle.cause_laws.specs.Chains.{chain_over}
use Rattle.cause_examples.proofs.causes.dropped_by_a_dispatcher.Goals as goal

pub returns : goal.returns
unfolding time time_within local incoming cap transfer change wait events effect is_same is_same_node is_before due capper cause_over chain_over
returns c = let k = with_override _ _ no_overrides in why-is _ _ k _ _ refl
