use Rattle.schedule_build.proofs.Words.{sym}
use Rattle.schedule_build.proofs.ExtraLemmas.{number-there, number-missing}
use Rattle.schedule_build.specs.StoredExtras.{name_of}
use Rattle.schedule_build.proofs.extra_trains.ExtraTrains.find.Goals as goal

pub returns-in-Ok-clause-number : goal.returns-in-Ok-clause-number
returns-in-Ok-clause-number c =
    let a = c.self.inside in
    let within = rw c.deref-2.ensures.value at c.in-Ok.ensures.within in
    let found = rw (c.deref.ensures.value, c.deref-2.ensures.value) at c.in-Ok.ensures.found in
    rw (← c.self.view_is) (sym (number-there a.names.items a.order.items (name_of c.args.trip.now c.args.day) c.in-Ok.place c.self.invariant.found c.index.result.now within found c.index.ensures))

pub returns-in-Err-clause-number : goal.returns-in-Err-clause-number
returns-in-Err-clause-number c =
    let a = c.self.inside in
    let within = rw c.deref-2.ensures.value at c.in-Err.ensures.within in
    let gap = rw (c.deref.ensures.value, c.deref-2.ensures.value) at c.in-Err.ensures.absent in
    rw (← c.self.view_is) (sym (number-missing a.names.items a.order.items (name_of c.args.trip.now c.args.day) c.in-Err.field-0 c.self.invariant.found within gap))
