use Rattle.conn_scan.proofs.Words.{length, sym, subst, HasSameRoom, Known, begun}
use Rattle.conn_scan.proofs.RoomLemmas.{room-begun, room-kept, room-then}
use Rattle.conn_scan.proofs.scan.search.Goals as goal

pub scan-requires-clause-room : goal.scan-requires-clause-room
scan-requires-clause-room c =
    room-kept (length c.args.changes.now.stops) (length c.args.order.now.entries) c.args.known.now c.begin.new.known
    (rw c.begin.ensures (room-begun c.args.changes.now c.args.asked.now.query c.args.known.now)) c.requires.room

pub returns-clause-room : goal.returns-clause-room
returns-clause-room c =
    room-then c.args.known.now c.begin.new.known c.scan.new.known
    (rw c.begin.ensures (room-begun c.args.changes.now c.args.asked.now.query c.args.known.now)) c.scan.ensures.room
