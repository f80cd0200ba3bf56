use Rattle.conn_scan.proofs.Words.{length}
use Rattle.conn_scan.proofs.earliest_arrival.earliest.Goals as goal

pub returns-clause-settled : goal.returns-clause-settled
returns-clause-settled c = c.find.ensures.found.settled (record { stops = length c.find.new.known.held; numbers = c.scratch.inside.numbers })
