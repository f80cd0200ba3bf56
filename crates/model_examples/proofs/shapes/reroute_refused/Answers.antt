use Rattle.model_examples.proofs.Words.{refl, is_same, is_same_node, is_before, change, wait, events, transfer, effect, refusal, cap}
use Rattle.model_examples.proofs.shapes.reroute_refused.Goals as goal

pub returns : goal.returns
unfolding cap transfer change wait events effect refusal is_same is_same_node is_before
returns c = record { station = refl; not_running = refl; last_call_spare = refl; call_taken = refl; no_call_spare = refl }
