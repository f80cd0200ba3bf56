use Rattle.std.proofs.Common.{◌∙◌, ◌+◌, ◌++◌, List, ℕ, true, drop, ap}
use Rattle.serde_json.specs.Written.{items_text}
use Rattle.desk_report.specs.Chains.{link_objects}
use Rattle.desk_report.proofs.ChainTexts.{link-passed, links-passed}
use Rattle.desk_report.proofs.chains.push_links.Goals as goal

pub loop-link-preserved : goal.loop-link-preserved
loop-link-preserved c =
    let names = c.args.dir.now in
    let links = c.args.links.now in
    let i = c.loop-link.link-index in
    ap (λ (xs : List ℕ). xs ++ items_text true (link_objects names (drop (i + 1) links))) c.in_ok-push_link.ensures
    ∙ link-passed names c.loop-link.later links i c.link-item.result c.loop-link.text.items c.loop-link-test.true c.link-item.is
    ∙ c.loop-link.invariant

pub returns : goal.returns
returns c =
    c.in_ok-push.ensures.items
    ∙ links-passed c.args.dir.now c.loop-link.later c.args.links.now c.loop-link.link-index c.loop-link.text.items c.loop-link-test.false
    ∙ c.loop-link.invariant
