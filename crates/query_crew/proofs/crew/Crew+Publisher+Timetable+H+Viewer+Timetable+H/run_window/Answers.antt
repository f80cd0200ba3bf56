use Rattle.std.proofs.Common.{rules, arith, length, vec_len, ◌≡◌, ◌∙◌, sym, subst, All}
use Rattle.std.proofs.lemmas.List.{with_items_is}
use Rattle.std.proofs.lemmas.Result.{on_ok_weaker}
use Rattle.query_crew.specs.Keeping.{AreKept}
use Rattle.query_crew.specs.Posted.{HasSearchRoom}
use Rattle.query_crew.proofs.Keeping.{rooms-kept}
use Rattle.query_crew.proofs.crew.Crew+Publisher+Timetable+H+Viewer+Timetable+H.run_window.Goals as goal

pub run_lines-requires-clause-room : goal.run_lines-requires-clause-room
run_lines-requires-clause-room g c κs within =
    let ready = rw (← c.self.view_is) at c.requires.ready in
    let same : c.as_mut_slice.result.now ≡ c.self.inside.workers.items = search rules in
    subst (λ ws. All (λ w. HasSearchRoom g.H.Opening.opening w.scratch.room) ws) (sym same) ready.room

pub returns-clause-replies : goal.returns-clause-replies
returns-clause-replies g c = rw (← c.self.view_is) c.run_lines.ensures.replies

pub returns-clause-stands : goal.returns-clause-stands
returns-clause-stands g c = rw (← c.self.view_is) c.run_lines.ensures.stands

pub returns-clause-ready : goal.returns-clause-ready
returns-clause-ready g c =
    let o = g.H.Opening.opening in
    let workers = c.self.inside.workers in
    let ready = rw (← c.self.view_is) at c.requires.ready in
    let same : c.as_mut_slice.result.now ≡ workers.items = search rules in
    let count : length c.as_mut_slice.result.now ≡ workers.len = search rules in
    let kept = subst (λ ws. AreKept ws c.run_lines.new.all) same c.run_lines.ensures.kept in
    on_ok_weaker c.run_lines.result (λ board. record {
      board = board;
      room = subst (λ ws. All (λ w. HasSearchRoom o w.scratch.room) ws) (sym (with_items_is workers c.run_lines.new.all (c.run_lines.ensures.kept.count ∙ count)))
          (λ k d l. rooms-kept o workers.items c.run_lines.new.all kept ready.room k d (omega (arith, l, kept.count)));
    }) c.run_lines.ensures.board
