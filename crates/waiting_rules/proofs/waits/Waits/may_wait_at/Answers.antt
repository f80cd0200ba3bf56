use Rattle.waiting_rules.proofs.Words.{sym, ◌∙◌, ap, flag_at, WaitTable, some_waits}
use Rattle.waiting_rules.proofs.WaitLemmas.{wait-none}
use Rattle.waiting_rules.proofs.waits.Waits.may_wait_at.Goals as goal

pub returns-clause-none : goal.returns-clause-none
returns-clause-none c = λ unmarked feeder route.
    let stop = c.args.stop in
    let flag = sym (ap (λ flags. flag_at flags stop) c.as_slice.ensures.value) ∙ sym c.flag_at.ensures ∙ unmarked in
    wait-none c.args.self.now route stop (sym (ap (λ (t : WaitTable). some_waits t route stop) c.self.view_is) ∙ c.self.invariant.flags.none route stop flag) feeder
