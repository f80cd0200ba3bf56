use Rattle.std.proofs.Common.{◌≡◌, ◌∙◌, Ok, Err, ap, subst, sym}
use Rattle.desk_lines.specs.DeskLines.{desk_line_of}
use Rattle.message_reader.specs.Errors.{IsCauseOf, bad_in}
use Rattle.message_reader.specs.declared.bad_line.LineError.{LineError}
use Rattle.desk_answers.specs.DeskOutput.{after_desk}
use Rattle.desk_answers.proofs.Leaving.{leaves-as, on-any, on-ok}
use Rattle.desk_answers.proofs.lines.short_text.Goals as goal

pub returns-in-Ok-clause-next : goal.returns-in-Ok-clause-next
returns-in-Ok-clause-next c =
    let t = c.args.service.now in
    let bytes = c.args.bytes.now in
    let read : desk_line_of bytes ≡ Ok c.in-Ok.said = c.in-Ok.ensures.exact in
    on-ok c.desk_line_text.result (λ is. is ∙ sym (leaves-as t bytes ∙ ap (after_desk t) read)) c.desk_line_text.ensures.next

pub returns-in-Err-Bad-clause-next : goal.returns-in-Err-Bad-clause-next
returns-in-Err-Bad-clause-next c =
    let t = c.args.service.now in
    let bytes = c.args.bytes.now in
    let told : desk_line_of bytes ≡ Err c.in-Err-Bad.bad =
    subst (λ (e : LineError). IsCauseOf (bad_in e) (desk_line_of bytes)) c.in-Err-Bad.field-0-is c.in-Err-Bad.ensures.exact in
    let read : desk_line_of bytes ≡ Err c.in-Err-Bad.bad = told in
    on-any c.bad_text.result (sym (leaves-as t bytes ∙ ap (after_desk t) read))
