use Rattle.journey_laws.proofs.RideLemmas.{rides-begin, ride-listed}
use Rattle.conn_scan.proofs.laws.rides_are_listed_by_departure.Goals as goal

pub returns-clause-begin : goal.returns-clause-begin
returns-clause-begin c = λ n departure. rides-begin c.args.nw.now c.args.st.now n departure

pub returns-clause-all : goal.returns-clause-all
returns-clause-all c = λ r ride. ride-listed c.args.nw.now c.args.st.now c.requires r ride
