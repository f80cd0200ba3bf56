use Rattle.std.proofs.Common.{◌∙◌, ap, sym, arith}
use Rattle.dep_order.specs.Departing.{held}
use Rattle.timetable.proofs.GoneOn.{gone-all, gone-more, gone-past, has-call, has-next, is-none, none-gone}
use Rattle.timetable.proofs.onward.go_on_all.Goals.{in-Some, in_default}
use Rattle.timetable.proofs.onward.go_on_all.Goals as goal

pub loop-number-init : goal.loop-number-init
loop-number-init g c = none-gone c.args.g.now.network c.args.g.now.state c.args.departures.now

pub go_on-requires-clause-there : goal.go_on-requires-clause-there
go_on-requires-clause-there g c = sym c.departure.ensures ∙ c.in-Some.is

pub go_on-requires-clause-call : goal.go_on-requires-clause-call
go_on-requires-clause-call g c =
    let law = c.departures_are_in_order.ensures in
    has-call c.args.g.now.network c.args.g.now.state c.args.times.now c.requires.settled c.args.departures.now (record { all = law.all; departs = law.departs; calls = law.calls; used = law.used; unused = law.unused }) c.requires.departures c.loop-number.number c.in-Some.d
    (ap (λ es. held es c.loop-number.number) (sym c.loop-number.invariant.entries) ∙ sym c.departure.ensures ∙ c.in-Some.is)

pub go_on-requires-clause-time : goal.go_on-requires-clause-time
go_on-requires-clause-time g c =
    let law = c.departures_are_in_order.ensures in
    has-next c.args.g.now.network c.args.g.now.state c.args.times.now c.requires.settled c.args.departures.now (record { all = law.all; departs = law.departs; calls = law.calls; used = law.used; unused = law.unused }) c.requires.departures c.loop-number.number c.in-Some.d
    (ap (λ es. held es c.loop-number.number) (sym c.loop-number.invariant.entries) ∙ sym c.departure.ensures ∙ c.in-Some.is)

pub loop-number-preserved : goal.loop-number-preserved
loop-number-preserved g c =
    let law = c.departures_are_in_order.ensures in
    elim c.match-departure.branch [
      | in-Some w ↦ rw w.departures-is (gone-more c.args.g.now.network c.args.g.now.state c.args.times.now c.requires.settled c.args.departures.now (record { all = law.all; departs = law.departs; calls = law.calls; used = law.used; unused = law.unused }) c.requires.departures c.loop-number.number c.loop-number.departures w.go_on.new.departures w.in-Some.d (sym c.departure.ensures ∙ w.in-Some.is) c.loop-number.invariant w.go_on.ensures)
      | in_default w ↦ rw w.departures-is (gone-past c.args.g.now.network c.args.g.now.state c.args.departures.now c.loop-number.number c.loop-number.departures (sym c.departure.ensures ∙ is-none c.departure.result w.in_default.not-Some) c.loop-number.invariant)
    ]

pub returns-clause-order : goal.returns-clause-order
returns-clause-order g c =
    let law = c.departures_are_in_order.ensures in
    gone-all c.args.g.now.network c.args.g.now.state c.args.departures.now c.loop-number.number c.loop-number.departures (record { all = law.all; departs = law.departs; calls = law.calls; used = law.used; unused = law.unused }) c.requires.departures (omega arith) c.loop-number.invariant
