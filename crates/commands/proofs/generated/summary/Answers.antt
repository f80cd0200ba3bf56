use Rattle.std.proofs.Common.{◌≡◌, ◌∙◌, [], ◌∷◌, Err, Some, ap, arith, length, refl, subst}
use Rattle.delay_model.specs.declared.state.State.{State}
use Rattle.feed_gen.specs.Lines.{input}
use Rattle.feed_gen.specs.Tables.{files}
use Rattle.feed_gen.proofs.InputLines.{input-short}
use Rattle.feed_gen_laws.proofs.Timetable.{made-timetable}
use Rattle.window_service.specs.Summary.{summary_line}
use Rattle.service_zones.specs.Bases.{base_seconds, west}
use Rattle.service_zones.specs.Zones.{utc}
use Rattle.commands.specs.Contract.{byte_budget}
use Rattle.commands.specs.Statuses.{IsFeedStop}
use Rattle.gtfs_tables.specs.declared.refusals.FeedError.{FeedError}
use Rattle.information_service.specs.declared.fault.LinesFault.TheVariants as lines
use Rattle.commands.specs.declared.status.Stop.TheVariants.{Fault}
use Rattle.commands.proofs.GenEndings.{handed-on, only-memory, only-memory-left}
use Rattle.commands.proofs.Made.{made-summary-by}
use Rattle.commands.proofs.generated.summary.Goals as goal

-- the base of one day
one-base : base_seconds utc 20260105 1 ≡ 0 ∷ []
unfolding west
one-base = refl

pub returns-in-Err-clause-memory : goal.returns-in-Err-clause-memory
returns-in-Err-clause-memory g c =
    let f = c.in-Err.error in
    let holds = made-timetable c.build-feed.result [] c.default_options-opts.result
    (omega (arith, c.build-feed.ensures, c.requires.trains.0)) (omega (arith, c.build-feed.ensures, c.requires.trains.1)) in
    subst (λ (e : FeedError). IsFeedStop e c.feed_stop.result)
    (only-memory f _ (holds.state, holds.names) holds.holds (rw (c.utc-zone.ensures, one-base) at c.in-Err.ensures.exact (files c.build-feed.result) refl) (λ is. c.in-Err.ensures.failed (ap Err is)))
    c.feed_stop.ensures

pub returns-in_err-sums-clause-memory : goal.returns-in_err-sums-clause-memory
returns-in_err-sums-clause-memory g c =
    let f = c.in_err-sums.field-0.0 in
    handed-on c.from_residual-in_err-sums.result (Fault f) (Fault lines.OutOfMemory) c.from_residual-in_err-sums.ensures.1
    (only-memory-left f byte_budget c.in_ok-lines.lines (Some c.sum_windows.new.input)
    (omega (arith, ap length c.in_ok-lines.ensures, input-short c.args.asked.trains c.requires.trains.1)) c.in_err-sums.ensures.counts)

pub returns-clause-ok : goal.returns-clause-ok
returns-clause-ok g c =
    let made = c.in-Ok.loaded.timetable in
    made-summary-by c.args.asked.trains c.build-feed.result c.default_options-opts.result _ made.network made.state c.in-Ok.loaded.directory c.in_ok-sums.sums
    c.build-feed.ensures c.default_options-opts.ensures.value c.requires.trains.0 c.requires.trains.1
    (rw (c.utc-zone.ensures, one-base) at c.in-Ok.ensures.exact (files c.build-feed.result) refl) (λ rows are. c.in-Ok.ensures.network (files c.build-feed.result) rows refl are)
    (c.in_ok-sums.ensures.ok (input c.args.asked.trains) (ap Some c.in_ok-lines.ensures))
    (c.in_ok-summary_text.ensures ∙ ap (summary_line c.in_ok-sums.sums) (c.count-count.ensures ∙ ap (λ (s : State). length s.trains) (c.trains.ensures.trains ∙ c.graph.ensures.state)))
