use Rattle.schedule_build.proofs.Words.{bytes_eq, nat_eq, ◌&&◌, arith, common_steps, sym}
use Rattle.delay_model.specs.Names.{TrainName}
use Rattle.schedule_build.proofs.NumberLemmas.{is_found}
use Rattle.schedule_build.proofs.TrainNameLemmas.{train-found, train-missing, train-unloaded}
use Rattle.schedule_build.proofs.train_names.TrainNames.find.Goals as goal

pub returns-in_err-trip-clause-number : goal.returns-in_err-trip-clause-number
returns-in_err-trip-clause-number c =
    let a = c.self.inside in
    rw (← c.self.view_is) (grind (arith, common_steps, train-missing a.trips a.trains.items c.args.trip.now c.args.day c.self.invariant.has_trips))

pub returns-then-get-ge31-clause-number : goal.returns-then-get-ge31-clause-number
returns-then-get-ge31-clause-number c =
    let a = c.self.inside in
    rw (← c.self.view_is) (sym (train-unloaded a.trips a.trains.items c.args.trip.now c.args.day c.self.invariant.loaded (omega (arith, c.if-get-ge31.true))))

pub returns-clause-number : goal.returns-clause-number
returns-clause-number c =
    let a = c.self.inside in
    let trip = c.in_ok-trip.trip in
    rw (← c.self.view_is) (grind (arith, common_steps, train-found a.trips a.trains.items c.args.trip.now c.args.day trip c.self.invariant.has_trips, c.self.invariant.numbered.found trip c.args.day))

pub returns-clause-there : goal.returns-clause-there
returns-clause-there c = grind (arith, returns-clause-number c, is_found (λ (t : TrainName). bytes_eq t.trip c.args.trip.now && nat_eq t.day c.args.day) 0 c.args.self.now)
