use Rattle.conn_scan.proofs.EveryQuery.{answered}
use Rattle.conn_scan.proofs.laws.every_query_has_an_answer.Goals as goal

pub returns : goal.returns
returns c = λ q. answered c.args.nw.now c.args.st.now q c.requires.valid c.requires.at_stops
