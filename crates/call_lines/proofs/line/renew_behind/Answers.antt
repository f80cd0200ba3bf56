use Rattle.call_lines.proofs.Words.{sym, ap, ◌∙◌, slot_of, loaded-read, last-there, arith}
use Rattle.call_lines.proofs.RenewLemmas.{known-end}
use Rattle.call_lines.proofs.line.renew_behind.Goals as goal

pub overflow_sub-last : goal.overflow_sub-last
overflow_sub-last c =
    (loaded-read c.args.slots.now.trains c.args.t c.loaded-last.result c.numbers_are_lawful.ensures.loaded c.loaded-last.ensures).some

pub returns-in-Some-clause-renewed : goal.returns-in-Some-clause-renewed
returns-in-Some-clause-renewed c = λ first line knows.
    let w = loaded-read c.args.slots.now.trains c.args.t c.loaded-last.result c.numbers_are_lawful.ensures.loaded c.loaded-last.ensures in
    c.renew_line.ensures.renewed c.args.t first c.in-Some.slot c.args.len (known-end (line w.train c.in-Some.slot w.there (grind (arith, w.loaded, c.new.ensures, c.slot.ensures, c.in-Some.is)))) knows

pub returns-in_default-clause-renewed : goal.returns-in_default-clause-renewed
returns-in_default-clause-renewed c =
    let w = loaded-read c.args.slots.now.trains c.args.t c.loaded-last.result c.numbers_are_lawful.ensures.loaded c.loaded-last.ensures in
    absurd (last-there c.args.slots.now c.args.t c.loaded-last.result w (ap (slot_of c.args.slots.now c.args.t) (sym c.new.ensures) ∙ sym c.slot.ensures ∙ c.in_default.is))
