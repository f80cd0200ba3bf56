use Rattle.std.proofs.Common.{sym, ap, subst}
use Rattle.std.proofs.lemmas.Result.{err_from_is_err_and}
use Rattle.delay_model.specs.declared.network.Network.{Network}
use Rattle.timetable.specs.TimetableState.{TimetableState}
use Rattle.information_service.specs.Networks.{IsSame}
use Rattle.commands.specs.Feeds.{network}
use Rattle.commands.proofs.SameTables.{same-tables}
use Rattle.commands.proofs.feed.load_with_bases.Goals as goal

pub returns-clause-network : goal.returns-clause-network
returns-clause-network g c = λ told rows is are.
    let both = c.in_ok-loaded.ensures.network told rows is are in
    subst (λ (n : Network). IsSame (network rows c.args.opts.now) n) (sym (ap (λ (t : TimetableState). t.network) c.in_ok-timetable.ensures))
    (same-tables rows c.args.opts.now c.in_ok-loaded.loaded.changes c.in_ok-loaded.loaded.waits both.0 both.1)

pub returns-in_err-timetable-clause-exact : goal.returns-in_err-timetable-clause-exact
returns-in_err-timetable-clause-exact g c = λ told is.
    let p = err_from_is_err_and c.from_residual-in_err-timetable.result c.from_residual-in_err-timetable.ensures.1 in
    rw (p.1, p.2) tt
