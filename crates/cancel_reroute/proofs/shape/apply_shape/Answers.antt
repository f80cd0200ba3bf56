use Rattle.cancel_reroute.proofs.shape.apply_shape.Goals as goal

pub returns-in-Cancel : goal.returns-in-Cancel
returns-in-Cancel c = rw c.in-Cancel.is c.cancel.ensures
