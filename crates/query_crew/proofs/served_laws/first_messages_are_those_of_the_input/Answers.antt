use Rattle.query_crew.proofs.ServedLemmas.{accepted-first}
use Rattle.query_crew.proofs.served_laws.first_messages_are_those_of_the_input.Goals as goal

pub returns : goal.returns
returns c = λ nw names st lines later count few. accepted-first nw names st lines later count few
