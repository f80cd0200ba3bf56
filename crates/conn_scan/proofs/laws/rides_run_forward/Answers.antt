use Rattle.journey_laws.proofs.Forward.{ride-forward}
use Rattle.conn_scan.proofs.laws.rides_run_forward.Goals as goal

pub returns : goal.returns
returns c = ride-forward c.args.nw.now c.args.st.now c.requires
