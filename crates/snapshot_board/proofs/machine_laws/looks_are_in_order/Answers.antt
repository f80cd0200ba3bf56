use Rattle.std.proofs.Common.{◌≤◌, ◌∷◌, subst, arith}
use Rattle.std.proofs.lemmas.List.Elements.{All-weaker}
use Rattle.snapshot_board.specs.Machines.{at_opening, counts_of}
use Rattle.snapshot_board.specs.Runs.{learns_of}
use Rattle.snapshot_board.specs.declared.event.Event.TheVariants.{Look}
use Rattle.snapshot_board.proofs.RunLemmas.{IsRun, after_all, accepted-run, run-front, run-back, look-step, looks-rise, learns-below, posts-run}
use Rattle.snapshot_board.proofs.machine_laws.looks_are_in_order.Goals as goal

pub returns-clause-rise : goal.returns-clause-rise
returns-clause-rise g c v =
    let s = at_opening {M = g.row.M.Denot} c.args.viewers in
    looks-rise s _ v (accepted-run s c.args.events.now)

pub returns-clause-learnt : goal.returns-clause-learnt
returns-clause-learnt g c before after v count is =
    let s = at_opening {M = g.row.M.Denot} c.args.viewers in
    let run = subst (IsRun s) is (accepted-run s c.args.events.now) in
    let t = after_all s before in
    let least = (counts_of t v).least in
    let k = look-step t v count (run-back s before (Look v count ∷ after) run).0 in
    All-weaker (λ n. n ≤ least) (λ n. n ≤ count) (λ n h. omega arith) (learns_of v before)
    (learns-below s before v (run-front s before (Look v count ∷ after) run))

pub returns-clause-posted : goal.returns-clause-posted
returns-clause-posted g c before after v count is =
    let s = at_opening {M = g.row.M.Denot} c.args.viewers in
    let run = subst (IsRun s) is (accepted-run s c.args.events.now) in
    let k = look-step (after_all s before) v count (run-back s before (Look v count ∷ after) run).0 in
    omega (arith, k.posted, posts-run s before)
