use Rattle.std.proofs.Common.{rules, arith, length, vec_len, ◌≤◌}
use Rattle.conn_scan.specs.ScratchState.{ScratchRoom}
use Rattle.query_crew.proofs.Building.{opened-board, opened-room}
use Rattle.query_crew.proofs.Keeping.{viewers-given}
use Rattle.query_crew.proofs.crew.Crew+Publisher+Timetable+H+Viewer+Timetable+H.build_limited.Goals as goal

pub returns-in-Ok-clause-ready : goal.returns-in-Ok-clause-ready
returns-in-Ok-clause-ready g c =
    let o = g.H.Opening.opening in
    let t = c.args.plan.timetable in
    let stops : length t.network.stops ≤ c.stops-stops.result = search rules in
    let numbers : t.numbers ≤ c.numbers-numbers.result = search rules in
    let room : ScratchRoom = record { stops = c.stops-stops.result; numbers = c.numbers-numbers.result } in
    record {
      board = opened-board o t c.in_ok-publisher.publisher c.args.plan.directory c.requires.opening c.in_ok-publisher.ensures.publisher c.requires.in_step;
      room = opened-room o t c.in-Ok.workers.items room c.requires.opening (record { stops = stops; numbers = numbers }) c.in-Ok.ensures.room;
    }

pub returns-in-Ok-clause-viewers : goal.returns-in-Ok-clause-viewers
returns-in-Ok-clause-viewers g c =
    viewers-given c.args.viewers c.args.plan.workers c.max-seats.result (vec_len c.truncate.new.self) c.in-Ok.workers.items c.in-Ok.ensures.viewers
    (omega (arith, c.in-Ok.ensures.count, c.in-Ok.workers.ok.0)) (search rules) (search rules)
