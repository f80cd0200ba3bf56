use Rattle.snapshot_board.proofs.StepLemmas.{looks, learns}
use Rattle.snapshot_board.proofs.machine_laws.viewers_take_steps.Goals as goal

pub returns-clause-looks : goal.returns-clause-looks
returns-clause-looks g c v old new has look within = looks c.args.machine.now v old new has look within

pub returns-clause-learns : goal.returns-clause-learns
returns-clause-learns g c v note told old new has noted learnt =
    learns c.args.machine.now v note told old new has noted learnt
