use Rattle.schedule_build.proofs.Words.{◌<◌, ◌≤◌, ◌∙◌, arith, length}
use Rattle.schedule_build.proofs.PlaceLemmas.{get-past, get-there, kind-at}
use Rattle.schedule_build.proofs.places.Places.kind.Goals as goal

pub returns-then-number-len : goal.returns-then-number-len
returns-then-number-len c =
    let a = c.self.inside in
    let past : length a.kinds.items ≤ c.args.number = omega (arith, c.len.ensures ∙ a.kinds.ok.0, c.if-number-len.true) in
    rw (← c.self.view_is, kind-at a.ids a.kinds.items c.args.number c.self.invariant) (get-past a.kinds.items c.args.number past)

pub returns : goal.returns
returns c =
    let a = c.self.inside in
    let within : c.args.number < length a.kinds.items = omega (arith, c.len.ensures ∙ a.kinds.ok.0, c.if-number-len.false) in
    rw (← c.self.view_is, kind-at a.ids a.kinds.items c.args.number c.self.invariant) (get-there a.kinds.items c.args.number c.index.result.now within c.index.ensures)
