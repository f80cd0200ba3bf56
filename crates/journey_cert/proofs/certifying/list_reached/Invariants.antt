use Rattle.std.proofs.Common.{◌≡◌, ◌++◌, drop}
use Rattle.conn_scan.specs.ScratchState.{early_from, early_stops}
use Rattle.journey_cert.proofs.certifying.list_reached.Given as goal

-- what is listed and what is left are all that is to be listed
abbrev pub invariant-loop-number : goal.invariant-loop-number
invariant-loop-number l = l.list.items ++ early_from l.best l.number (drop l.number l.s.held) ≡ early_stops l.best l.s.held
