use Rattle.std.proofs.Common.{◌≡◌, pos, to_z, of_z, w8, w16, ◌∙◌, arith}
use Rattle.std.proofs.lemmas.Int.{ints}
use Rattle.service_zones.proofs.DateLemmas.{last-date, nth-date}
use Rattle.service_zones.proofs.changes.Change.date_in.Goals as goal
use Rattle.service_zones.proofs.changes.Change.date_in.Goals.{then-self-eq5, else-self-eq5}

pub returns : goal.returns
returns c =
    let change = c.args.self.now in
    let year : to_z w16 (of_z w16 c.args.year) ≡ c.args.year = omega (arith, ints) in
    elim c.if-self-eq5.branch [
      | then-self-eq5 w ↦
          let found = rw w.week-is at c.in-Ok.ensures.value in
          last-date c.args.year change c.in-Ok.date c.requires.change_in w.if-self-eq5.true (found.0.0 ∙ year) found.0.1 (found.0.2 ∙ c.from_index-weekday.ensures) found.1
      | else-self-eq5 w ↦
          let week : to_z w8 change.week ≡ pos change.week = omega (arith, ints, c.requires.change_in.week_in) in
          let found = rw (w.week-is, week) at c.in-Ok.ensures.value in
          nth-date c.args.year change c.in-Ok.date c.requires.change_in (omega (arith, c.requires.change_in.week_in, w.if-self-eq5.false)) (found.0.0 ∙ year) found.0.1 (found.0.2 ∙ c.from_index-weekday.ensures) found.1
    ]
