use Rattle.state_laws.proofs.Room.{room-kept}
use Rattle.state_laws.proofs.accepted_messages_leave_room.Goals as goal

pub returns : goal.returns
returns c = λ m h. room-kept c.args.nw.now c.args.st.now m c.requires h
