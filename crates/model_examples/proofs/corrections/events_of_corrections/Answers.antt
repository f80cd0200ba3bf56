use Rattle.model_examples.proofs.Words.{refl, is_same, is_same_node, is_before, change, wait, events, transfer, effect, refusal, time, time_within, local, incoming, cap}
use Rattle.model_examples.proofs.Compute.{no_overrides, touched-are}
use Rattle.model_examples.proofs.corrections.events_of_corrections.Goals as goal

pub returns : goal.returns
unfolding time time_within local incoming cap transfer change wait events effect refusal is_same is_same_node is_before
returns c =
    record {
      corrected = refl;
      first_corrected = refl;
      taken_back = refl;
      across_a_gap = refl;
      withdrawn = refl;
      retimed = touched-are _ _ _ no_overrides no_overrides _ refl;
      retimed_by_withdrawal = touched-are _ _ _ no_overrides no_overrides _ refl;
    }
