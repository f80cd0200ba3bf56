use Rattle.waiting_rules.proofs.Words.{IfOk-weaker}
use Rattle.waiting_rules.proofs.FlagLemmas.{flags-are}
use Rattle.waiting_rules.proofs.waiting.flags.Goals as goal

pub returns : goal.returns
returns c =
    let parents = c.args.parents.now in
    let rules = c.args.rules.now in
    let same = c.as_slice.ensures.value in
    IfOk-weaker c.with_stations.result _ _ (λ v h. flags-are parents rules c.in_ok-named.named.items v.items (rw same at h) c.in_ok-named.ensures.length (λ stop l. c.in_ok-named.ensures.named stop (rw c.in_ok-named.ensures.length at l))) c.with_stations.ensures
