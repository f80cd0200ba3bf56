use Rattle.std.proofs.Common.{length, refl}
use Rattle.delay_model.specs.declared.messages.Message.TheVariants.{Reroute}
use Rattle.timetable.specs.Linking.{with_made_linked, with_noted, with_shape_linked}
use Rattle.timetable.proofs.LinkLemmas.{renewed-then}
use Rattle.timetable.proofs.onward.link_shape.Goals as goal

pub returns-in-Reroute : goal.returns-in-Reroute
returns-in-Reroute c =
    let g = c.args.g.now in
    let r = c.in-Reroute in
    let was = c.args.departures.now in
    rw r.is
    (renewed-then (with_made_linked g.network g.state was.entries r.train r.from (length r.via.now)) (with_noted g.state r.train r.to c.args.noted) (with_shape_linked g.network g.state was.entries (Reroute r.train r.from r.to r.via.now) c.args.noted) was c.link_made.new.departures c.note_rejoined.new.departures (λ d o. refl) c.link_made.ensures (rw c.trains.ensures.trains at c.note_rejoined.ensures))
