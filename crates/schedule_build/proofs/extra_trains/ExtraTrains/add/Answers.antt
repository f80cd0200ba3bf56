use Rattle.schedule_build.proofs.Words.{arith, length, ◌≡◌, ◌++◌, ◌∷◌, []}
use Rattle.std.specs.List.{insert}
use Rattle.schedule_build.proofs.ExtraLemmas.{added, number-not-missing, within-more}
use Rattle.schedule_build.proofs.extra_trains.ExtraTrains.add.Goals as goal

pub unreachable-requires : goal.unreachable-requires
unreachable-requires c =
    let a = c.self.inside in
    let new = rw (← c.self.view_is) at c.requires.new in
    let within = rw c.deref-2.ensures.value at c.in_default.ensures.within in
    let found = rw (c.deref.ensures.value, c.deref-2.ensures.value, c.trip.ensures, c.day.ensures.day) at c.in_default.ensures.found in
    number-not-missing a.names.items a.order.items c.args.name c.in_default.field-0 c.self.invariant.found within found new

pub invariant_of-self : goal.invariant_of-self
invariant_of-self c =
    let a = c.self.inside in
    let spare = rw (← c.self.view_is) at c.requires.spare in
    let new = rw (← c.self.view_is) at c.requires.new in
    let put = c.insert.ensures.succeeds (omega (arith, spare, c.self.invariant.order_room)) in
    let pushed = c.push.ensures.succeeds (omega (arith, spare, c.self.invariant.room)) in
    let order : c.insert.new.self.items ≡ insert a.order.items c.in-Err.place (length a.names.items) = rw (put, c.len-number.ensures, a.names.ok.0) at c.insert.ensures.items in
    let names : c.push.new.self.items ≡ a.names.items ++ c.args.name ∷ [] = rw pushed at c.push.ensures.items in
    let within = rw c.deref-2.ensures.value at c.in-Err.ensures.within in
    let gap = rw (c.deref.ensures.value, c.deref-2.ensures.value, c.trip.ensures, c.day.ensures.day) at c.in-Err.ensures.absent in
    let h = c.self.invariant in
    record {
      found = rw (names, order) (added a.names.items a.order.items c.args.name c.in-Err.place h.found h.within new within gap);
      within = rw (names, order) (within-more a.names.items c.args.name a.order.items c.in-Err.place h.within);
      room = omega (arith, spare, rw pushed at c.push.ensures.len, c.push.ensures.capacity, h.room);
      order_room = omega (arith, spare, rw put at c.insert.ensures.len, c.insert.ensures.capacity, h.order_room);
      small = omega (arith, spare, rw pushed at c.push.ensures.len, h.small);
    }
