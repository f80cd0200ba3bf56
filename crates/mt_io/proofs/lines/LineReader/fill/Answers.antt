use Rattle.std.proofs.Common.{◌≡◌, ◌<◌, ◌≤◌, ◌+◌, ◌-◌, ◌++◌, ◌∙◌, ℕ, List, length, slice_range, arith, ap}
use Rattle.mt_io.specs.Reader.{Reader}
use Rattle.mt_io.proofs.Fills.{buffer_after, empty_of_length, held_more, none_read, range_length, some_read}
use Rattle.mt_io.proofs.lines.LineReader.fill.Goals as goal

pub invariant_of-self : goal.invariant_of-self
invariant_of-self g c =
    let r = c.self.inside in
    let at : ℕ = c.make_room-start.result + (r.end - r.start) in
    let small : length (slice_range r.buf.items r.start r.end) < 65536 = rw (← c.self.view_is) at c.requires.waits.small in
    let few : r.end - r.start < 65536 = omega (arith, small, range_length r.buf.items r.start r.end (omega arith)) in (
      buffer_after r.buf.items c.make_room-start.new.bytes.items c.read_at.new.bytes.items r.start r.end c.make_room-start.result at at c.make_room-start.ensures.held
          c.in_default.ensures.front (rw (← c.self.view_is) at c.requires.waits.lf) (omega arith) (omega arith) (omega arith) (omega (arith, few)),
      omega arith,
      omega arith,
      omega arith,
      omega arith,
    )

pub invariant_of-self-2 : goal.invariant_of-self-2
invariant_of-self-2 g c =
    let r = c.self.inside in
    let at : ℕ = c.make_room-start.result + (r.end - r.start) in
    let n : ℕ = c.in-Ok.count in
    let bound : n ≤ c.min-room.result = c.in-Ok.ensures.bound in
    let small : length (slice_range r.buf.items r.start r.end) < 65536 = rw (← c.self.view_is) at c.requires.waits.small in
    let few : r.end - r.start < 65536 = omega (arith, small, range_length r.buf.items r.start r.end (omega arith)) in (
      buffer_after r.buf.items c.make_room-start.new.bytes.items c.read_at.new.bytes.items r.start r.end c.make_room-start.result at (at + n) c.make_room-start.ensures.held
          c.in-Ok.ensures.front (rw (← c.self.view_is) at c.requires.waits.lf) (omega arith) (omega arith) (omega (arith, bound)) (omega (arith, few)),
      omega arith,
      omega arith,
      omega arith,
      omega (arith, bound),
    )

pub returns-clause-ok : goal.returns-clause-ok
returns-clause-ok g c =
    let r = c.self.inside in
    let n : ℕ = c.in-Ok.count in
    let at : ℕ = c.make_room-start.result + (r.end - r.start) in
    let new : List ℕ = c.read_at.new.bytes.items in
    let moved = c.in-Ok.ensures.moved in
    let bound : n ≤ c.min-room.result = c.in-Ok.ensures.bound in
    let wide : at + n ≤ length new = omega (arith, bound, c.in-Ok.ensures.len, c.make_room-start.ensures.len) in
    let count : length (slice_range new at (at + n)) ≡ n = omega (arith, range_length new at (at + n) wide) in (
      slice_range new at (at + n),
      record {
        held = held_more r.buf.items c.make_room-start.new.bytes.items new r.start r.end c.make_room-start.result at (at + n) c.make_room-start.ensures.held c.in-Ok.ensures.front (omega arith) (omega arith)
            ∙ ap (λ (r : Reader). r.held ++ slice_range new at (at + n)) c.self.view_is;
        inside_long = ap (λ (r : Reader). r.inside_long) c.self.view_is;
        taken = omega (arith, count, ap (λ (r : Reader). r.taken) c.self.view_is);
        budget = ap (λ (r : Reader). r.budget) c.self.view_is;
        within = omega (arith, bound);
        source = moved.0;
        goes_on = λ not_yet. omega (arith, count, some_read n not_yet);
        end = λ is. (empty_of_length (slice_range new at (at + n)) (omega (arith, count, none_read n is)), moved.1 (none_read n is) (omega (arith, c.requires.budget, ap (λ (r : Reader). r.taken) c.self.view_is, ap (λ (r : Reader). r.budget) c.self.view_is)));
      },
    )
