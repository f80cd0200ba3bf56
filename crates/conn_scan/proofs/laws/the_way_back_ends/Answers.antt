use Rattle.conn_scan.proofs.WaysBack.{leads-backwards}
use Rattle.conn_scan.proofs.laws.the_way_back_ends.Goals as goal

pub returns : goal.returns
returns c = λ q access explained. leads-backwards c.args.nw.now c.args.st.now q access explained c.requires
