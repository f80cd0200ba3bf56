use Rattle.change_times.proofs.Words.{rules, is_same_pair}
use Rattle.std.proofs.lemmas.Fn.{dedup_same}
use Rattle.change_times.proofs.transfers.keep_first_of_each_pair.Goals as goal

pub returns : goal.returns
returns c = dedup_same _ is_same_pair _ (λ x y b f' x' y' k. search rules) _ _ c.dedup_by.ensures.filtered
