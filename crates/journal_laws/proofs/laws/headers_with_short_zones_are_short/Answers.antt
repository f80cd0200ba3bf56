use Rattle.journal_laws.proofs.Heads.{can-be-head}
use Rattle.journal_laws.proofs.laws.headers_with_short_zones_are_short.Goals as goal

pub returns : goal.returns
returns c = can-be-head
