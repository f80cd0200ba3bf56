use Rattle.change_times.proofs.Words.{rules, ◌≡◌, ◌∙◌, ◌++◌, All, ap, subst, IfOk-equal, Contains, filter_map, station, change_at, has_default, near, links_in}
use Rattle.change_times.proofs.ListedLemmas.{listed-is}
use Rattle.change_times.proofs.reach.fill.Goals as goal

pub returns : goal.returns
returns c =
    let t = c.args.table.now in
    let direction = c.args.direction in
    let place = c.args.place in
    let members = c.args.nearby.now.members in
    let links = links_in direction c.args.nearby.now in
    let at : c.station-at.result ≡ station t.stops place = search rules in
    let all = c.find.new.all.items in
    let by_own = subst (λ own. All (Contains all) (near members links place c.station-at.result own)) c.has_default-own.ensures c.in_ok-find.ensures.near in
    let contains = subst (λ n. All (Contains all) (near members links place n (has_default t direction place n))) at by_own in
    let same = listed-is t c.args.nearby.now direction place all c.requires c.in_ok-find.ensures.order contains in
    IfOk-equal c.push_changes.result _ _ _ c.push_changes.ensures (ap (λ xs. xs ++ filter_map (change_at t direction place) c.as_slice.result.now) c.clear.ensures.items ∙ ap (filter_map (change_at t direction place)) c.as_slice.ensures.value ∙ same)
