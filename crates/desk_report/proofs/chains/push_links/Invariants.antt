use Rattle.std.proofs.Common.{◌≡◌, ◌++◌, false, drop}
use Rattle.serde_json.specs.Written.{items_text}
use Rattle.desk_report.specs.Chains.{link_objects}
use Rattle.desk_report.proofs.chains.push_links.Given as goal

abbrev pub invariant-loop-link : goal.invariant-loop-link
invariant-loop-link l = l.text.items ++ items_text l.later (link_objects l.dir (drop l.link-index l.links))
    ≡ l.initial.text.items ++ items_text false (link_objects l.dir l.links)
