use Rattle.state_laws.proofs.Left.{untouched-kept}
use Rattle.state_laws.proofs.touched.untouched_events_keep_their_times.Goals as goal

pub returns-clause-there : goal.returns-clause-there
returns-clause-there c = λ m well h v hv live free. (untouched-kept c.args.nw.now c.args.st.now m c.requires well h v hv live free).0

pub returns-clause-time : goal.returns-clause-time
returns-clause-time c = λ m well h v hv live free. (untouched-kept c.args.nw.now c.args.st.now m c.requires well h v hv live free).1
