-- What a command begins with, and keeps beside it, fits what it writes.
use Rattle.std.proofs.Common.{◌≡◌, ℕ, List, Result, Ok, arith, sym, subst}
use Rattle.information_service.specs.ServiceState.{ServiceState}
use Rattle.journey_watch.specs.Watching.{WatchState}
use Rattle.watch_answers.specs.WatchedLines.{watched_output}
use Rattle.commands.specs.LineTasks.{BeginsFitting, Start}
use Rattle.commands.specs.OwnLoads.{none_watched, watch_behind}

-- where no journey is watched, what is kept fits every service
fits-none : (t : ServiceState) {kept : WatchState} → kept ≡ none_watched → watched_output.fits t kept
fits-none t {kept = kept} is = subst (watched_output.fits t) (sym is) (λ k w within. absurd (omega (arith, within)))

abbrev begun : Start WatchState → Result (Start WatchState) (List ℕ)
begun s = Ok s

same-kept : (t : ServiceState) (s : Start WatchState) → begun (record { service = t; kept = none_watched }) ≡ Ok s → s.kept ≡ none_watched
same-kept t s is = cc

pub watch-fits : BeginsFitting watch_behind watched_output
watch-fits asked table t s is = fits-none s.service (same-kept t s is)
