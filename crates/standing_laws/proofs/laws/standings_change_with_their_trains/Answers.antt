use Rattle.standing_laws.proofs.Untouched.{untouched}
use Rattle.standing_laws.proofs.laws.standings_change_with_their_trains.Goals as goal

pub returns : goal.returns
returns c = λ m well accepted nodes each q rides apart.
    untouched c.args.nw.now c.args.st.now m c.requires well accepted nodes each q rides apart
