use Rattle.std.proofs.Common.{◌∙◌, ◌++◌, List, ℕ, ap, codes, decimal, false}
use Rattle.serde_json.specs.Written.{items_text}
use Rattle.desk_report.specs.Chains.{link_objects}
use Rattle.desk_report.proofs.ChainTexts.{because-line}
use Rattle.desk_report.proofs.chains.because_text.Goals as goal

pub returns : goal.returns
returns c =
    let links = items_text false (link_objects c.args.dir.now c.args.links.now) in
    let first = c.in_ok-push_number.ensures ∙ ap (λ (xs : List ℕ). xs ++ (codes "{\"after\":" ++ decimal c.args.after)) c.new-text.ensures.items in
    let second = c.in_ok-extend_from_slice.ensures.items ∙ ap (λ (xs : List ℕ). xs ++ codes ",\"because\":[") first in
    let third = c.in_ok-push_links.ensures ∙ ap (λ (xs : List ℕ). xs ++ links) second in
    let fourth = c.in_ok-push_number-2.ensures ∙ ap (λ (xs : List ℕ). xs ++ (codes ",\"line\":" ++ decimal c.args.line)) third in
    c.in_ok-extend_from_slice-2.ensures.items ∙ ap (λ (xs : List ℕ). xs ++ codes "}\n") fourth
    ∙ because-line c.args.dir.now c.args.line c.args.after c.args.links.now
