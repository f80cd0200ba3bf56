use Rattle.std.proofs.Common.{◌∙◌, ◌++◌, List, ℕ, ap, codes, decimal}
use Rattle.delay_report.proofs.ReplyTexts.{accepted-line}
use Rattle.delay_report.proofs.replies.accepted_text.Goals as goal

pub returns : goal.returns
returns c =
    let first = c.in_ok-push_number.ensures ∙ ap (λ (xs : List ℕ). xs ++ (codes "{\"accepted\":" ++ decimal c.args.number)) c.in_ok-text.ensures.items in
    let second = c.in_ok-push_number-2.ensures ∙ ap (λ (xs : List ℕ). xs ++ (codes ",\"changed\":" ++ decimal c.args.changed)) first in
    let third = c.in_ok-push_number-3.ensures ∙ ap (λ (xs : List ℕ). xs ++ (codes ",\"line\":" ++ decimal c.args.line)) second in
    c.in_ok-extend_from_slice.ensures.items ∙ ap (λ (xs : List ℕ). xs ++ codes "}\n") third ∙ accepted-line c.args.line c.args.number c.args.changed
