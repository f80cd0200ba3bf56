use Rattle.schedule_build.specs.Stored.{trip_of_row}
use Rattle.schedule_build.proofs.SeenLemmas.{has-more, has-new, seen-more}
use Rattle.schedule_build.proofs.run_names.add_name.Goals as goal

pub returns-clause-marks : goal.returns-clause-marks
returns-clause-marks c =
    let items = rw (c.in_ok-build.ensures, c.trip_id.ensures) at c.in_ok-push.ensures.items in
    rw items (seen-more c.args.trips.now c.args.marks.now.items c.mark.new.marks.items c.args.names.now.items c.args.run.now.trip c.requires.marks c.mark.ensures.len c.mark.ensures.marks)

pub returns-clause-named : goal.returns-clause-named
returns-clause-named c =
    let items = rw (c.in_ok-build.ensures, c.trip_id.ensures) at c.in_ok-push.ensures.items in
    rw items (has-new c.args.names.now.items (trip_of_row c.args.trips.now c.args.run.now.trip))

pub returns-clause-kept : goal.returns-clause-kept
returns-clause-kept c =
    let items = rw (c.in_ok-build.ensures, c.trip_id.ensures) at c.in_ok-push.ensures.items in
    λ name h. rw items (has-more c.args.names.now.items (trip_of_row c.args.trips.now c.args.run.now.trip) name h)
