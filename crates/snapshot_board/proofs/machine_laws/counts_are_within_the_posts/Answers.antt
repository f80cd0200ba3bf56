use Rattle.snapshot_board.specs.Machines.{at_opening}
use Rattle.snapshot_board.specs.Runs.{accepted}
use Rattle.snapshot_board.proofs.RunLemmas.{accepted-run}
use Rattle.snapshot_board.proofs.WithinLemmas.{opening-within, run-within}
use Rattle.snapshot_board.proofs.machine_laws.counts_are_within_the_posts.Goals as goal

pub returns : goal.returns
returns g c =
    let s = at_opening {M = g.row.M.Denot} c.args.viewers in
    run-within s (accepted s c.args.events.now) (accepted-run s c.args.events.now) (opening-within c.args.viewers)
