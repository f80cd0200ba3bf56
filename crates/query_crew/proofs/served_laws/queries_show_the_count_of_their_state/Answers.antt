use Rattle.query_crew.proofs.ServedLemmas.{query-shows}
use Rattle.query_crew.proofs.served_laws.queries_show_the_count_of_their_state.Goals as goal

pub returns : goal.returns
returns c = λ nw names st before window number q asked reply r is. query-shows nw names st before window number q asked reply r is
