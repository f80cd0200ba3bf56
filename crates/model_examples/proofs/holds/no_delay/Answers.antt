use Rattle.model_examples.proofs.Words.{refl, is_same, is_same_node, is_before, change, wait, events, transfer, effect, refusal, time, time_within, local, incoming, cap}
use Rattle.model_examples.proofs.Compute.{no_overrides, times-are}
use Rattle.model_examples.proofs.holds.no_delay.Goals as goal

pub returns : goal.returns
unfolding time time_within local incoming cap transfer change wait events effect refusal is_same is_same_node is_before
returns c = times-are _ _ no_overrides _ refl
