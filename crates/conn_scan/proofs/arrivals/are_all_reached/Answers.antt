use Rattle.conn_scan.proofs.Words.{length, arith, HasSameRoom}
use Rattle.conn_scan.proofs.RoomLemmas.{room-begun, room-kept, room-then}
use Rattle.conn_scan.proofs.arrivals.are_all_reached.Goals as goal

pub note-requires-clause-room : goal.note-requires-clause-room
note-requires-clause-room c =
    let same : HasSameRoom c.args.known.now c.begin.new.known = rw c.begin.ensures (room-begun c.args.changes.now c.args.asked.now.query c.args.known.now) in
    room-kept (length c.args.changes.now.stops) 0 c.args.known.now c.begin.new.known same (record { held = c.requires.room.held; times = c.requires.room.times; rides = c.requires.room.rides; aboard = omega (arith, c.requires.room.aboard) })

pub has_all-requires-clause-room : goal.has_all-requires-clause-room
has_all-requires-clause-room c =
    let same : HasSameRoom c.args.known.now c.begin.new.known = rw c.begin.ensures (room-begun c.args.changes.now c.args.asked.now.query c.args.known.now) in
    room-kept (length c.args.changes.now.stops) (length c.args.order.now.entries) c.args.known.now c.note.new.known (room-then c.args.known.now c.begin.new.known c.note.new.known same c.note.ensures.room) c.requires.room

pub returns-clause-room : goal.returns-clause-room
returns-clause-room c =
    let same : HasSameRoom c.args.known.now c.begin.new.known = rw c.begin.ensures (room-begun c.args.changes.now c.args.asked.now.query c.args.known.now) in
    room-then c.args.known.now c.note.new.known c.has_all.new.known (room-then c.args.known.now c.begin.new.known c.note.new.known same c.note.ensures.room) c.has_all.ensures.room
