use Rattle.model_examples.proofs.Words.{refl, is_same, is_same_node, is_before, change, wait, events, transfer, effect, refusal, cap}
use Rattle.model_examples.proofs.Compute.{no_overrides, spare-less, gone, stays, given-back}
use Rattle.model_examples.proofs.overrides.override_of_what_is_gone.Goals as goal

pub returns : goal.returns
unfolding cap transfer change wait events effect refusal is_same is_same_node is_before
returns c =
    let less = spare-less 10000 no_overrides _ 9999 refl in
    record {
      left = less;
      cancelled = gone _ _ _ refl;
      cancelled_back = given-back _ _ _ refl _ _ less;
      rerouted = gone _ _ _ refl;
      rerouted_back = given-back _ _ _ refl _ _ less;
      elsewhere = stays _ _ _ refl;
    }
