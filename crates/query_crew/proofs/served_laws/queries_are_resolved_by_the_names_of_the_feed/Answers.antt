use Rattle.query_crew.proofs.KnownNames.{asked-by-feed}
use Rattle.query_crew.proofs.served_laws.queries_are_resolved_by_the_names_of_the_feed.Goals as goal

pub returns : goal.returns
returns c = λ nw names st lines q. asked-by-feed nw names st lines q
