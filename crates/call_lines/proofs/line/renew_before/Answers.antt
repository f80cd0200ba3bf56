use Rattle.call_lines.proofs.Words.{◌≡◌, ◌∙◌, ap, arith, get_or_from_slice_get, option_or, call_report, call_of, next_report_of}
use Rattle.call_lines.proofs.line.renew_before.Goals as goal

pub returns-clause-renewed : goal.returns-clause-renewed
returns-clause-renewed c = λ train first last len x there known knows.
    let is : c.index-call.result.now ≡ x = c.index-call.ensures ∙ get_or_from_slice_get c.args.calls.now.items c.args.slot x c.index-call.result.now there in
    let place : c.place-place.result ≡ x.place = c.place-place.ensures ∙ ap (λ z. z.place) is in
    let before : c.before-before.result ≡ x.before = c.before-before.ensures ∙ ap (λ z. z.before) is in
    let report : c.or-next_report.result ≡ option_or (call_report (call_of x)) (next_report_of x) = grind (arith, is, c.or-next_report.ensures, c.report.ensures, c.next_report.ensures) in
    c.renew_line.ensures.renewed train first last len (rw (place, before, report) known) (rw place knows)
