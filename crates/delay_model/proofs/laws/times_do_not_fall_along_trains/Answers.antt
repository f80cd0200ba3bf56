use Rattle.delay_model.proofs.AlongTrains.{times-rise}
use Rattle.delay_model.proofs.laws.times_do_not_fall_along_trains.Goals as goal

pub returns : goal.returns
returns c = times-rise c.args.nw.now c.args.st.now c.requires
