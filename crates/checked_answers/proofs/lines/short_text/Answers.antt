use Rattle.std.proofs.Common.{◌≡◌, ◌∙◌, Ok, Err, ap, subst, sym}
use Rattle.message_reader.specs.CheckLines.{check_line_of}
use Rattle.message_reader.specs.Errors.{IsCauseOf, bad_in}
use Rattle.message_reader.specs.declared.bad_line.LineError.{LineError}
use Rattle.checked_answers.specs.CheckedLines.{after_checked}
use Rattle.checked_answers.proofs.Leaving.{leaves-as, on-any, on-ok}
use Rattle.checked_answers.proofs.lines.short_text.Goals as goal

pub returns-in-Ok-clause-next : goal.returns-in-Ok-clause-next
returns-in-Ok-clause-next c =
    let t = c.args.service.now in
    let bytes = c.args.bytes.now in
    let read : check_line_of t.names bytes ≡ Ok c.in-Ok.said = ap (λ names. check_line_of names bytes) (sym c.directory.ensures) ∙ c.in-Ok.ensures.exact in
    on-ok c.checked_line_text.result (λ is. is ∙ sym (leaves-as t bytes ∙ ap (after_checked t) read)) c.checked_line_text.ensures.next

pub returns-in-Err-Bad-clause-next : goal.returns-in-Err-Bad-clause-next
returns-in-Err-Bad-clause-next c =
    let t = c.args.service.now in
    let bytes = c.args.bytes.now in
    let told : check_line_of c.directory.result.now bytes ≡ Err c.in-Err-Bad.bad =
    subst (λ (e : LineError). IsCauseOf (bad_in e) (check_line_of c.directory.result.now bytes)) c.in-Err-Bad.field-0-is c.in-Err-Bad.ensures.exact in
    let read : check_line_of t.names bytes ≡ Err c.in-Err-Bad.bad = ap (λ names. check_line_of names bytes) (sym c.directory.ensures) ∙ told in
    on-any c.bad_text.result (sym (leaves-as t bytes ∙ ap (after_checked t) read))
