use Rattle.query_crew.proofs.SingleLemmas.{singles-are}
use Rattle.query_crew.proofs.served_laws.single_windows_are_answered_line_by_line.Goals as goal

pub returns : goal.returns
returns c = λ nw names st lines bytes. singles-are nw names st lines bytes
