use Rattle.model_examples.proofs.Words.{refl, is_same, is_same_node, is_before, change, wait, events, transfer, effect, time, time_within, local, incoming, cap}
use Rattle.model_examples.proofs.Compute.{no_overrides}
use Rattle.cause_examples.proofs.ComputeChains.{why-is}
use Rattle.cause_laws.specs.Causes.{due, capper, cause_over}
use Rattle.cause_laws.specs.Chains.{chain_over}
use Rattle.cause_examples.proofs.causes.capped_by_a_report.Goals as goal

pub returns : goal.returns
unfolding time time_within local incoming cap transfer change wait events effect is_same is_same_node is_before due capper cause_over chain_over
returns c = record { departure = why-is _ _ no_overrides _ _ refl; after = why-is _ _ no_overrides _ _ refl; own = why-is _ _ no_overrides _ _ refl }
