use Rattle.model_examples.proofs.Words.{refl, is_same, is_same_node, is_before, change, wait, events, transfer, effect, refusal, time, time_within, local, incoming, cap}
use Rattle.model_examples.proofs.Compute.{no_overrides, still_none, touched-are}
use Rattle.model_examples.proofs.reports.touched_events.Goals as goal

pub returns : goal.returns
unfolding time time_within local incoming cap transfer change wait events effect refusal is_same is_same_node is_before
returns c =
    record {
      within_the_wait = touched-are _ _ _ no_overrides no_overrides _ refl;
      past_the_wait = touched-are _ _ _ no_overrides no_overrides _ refl;
      no_effect = touched-are _ _ _ no_overrides no_overrides _ refl;
      reported = touched-are _ _ _ no_overrides no_overrides _ refl;
      after_a_report = touched-are _ _ _ no_overrides no_overrides _ refl;
      rerouted = touched-are _ _ _ no_overrides (still_none _ no_overrides) _ refl;
      cancelled = touched-are _ _ _ no_overrides (still_none _ no_overrides) _ refl;
      added = touched-are _ _ _ no_overrides no_overrides _ refl;
    }
