use Rattle.query_crew.proofs.Words.{[]}
use Rattle.query_crew.proofs.ServedLemmas.{counts-along}
use Rattle.query_crew.proofs.served_laws.counts_do_not_fall_along_all_lines.Goals as goal

pub returns : goal.returns
returns c = λ nw names st ws replies are. counts-along nw names st [] ws replies are
