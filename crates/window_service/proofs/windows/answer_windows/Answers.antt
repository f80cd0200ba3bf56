use Rattle.window_service.proofs.Words.{◌≡◌, ◌∙◌, ◌∷◌, ◌++◌, length, ap, sym, refl, arith, [], List, ℕ, Option, true, Some, handed_on, on_ok_weaker, IfErr-weaker}
use Rattle.std.proofs.Common.{Bool}
use Rattle.std.proofs.lemmas.List.{length-map}
use Rattle.std.proofs.lemmas.Option.{same_Some}
use Rattle.information_service.specs.Causes.{writes_failed}
use Rattle.information_service.specs.Lines.{said_by}
use Rattle.query_crew.specs.WindowLines.{window_line}
use Rattle.query_crew.specs.declared.reading.WindowEnd.{WindowEnd}
use Rattle.query_crew.proofs.Filling.{same-reads}
use Rattle.window_service.proofs.Answered.{none-read, none-answered, read-more, answered-more, all-taken, ended-all, stopped, begun-before, begun-more, begun-last, begun-so-far}
use Rattle.information_service.proofs.Ends.{memory_not_write, not_write_if, same_fault}
use Rattle.information_service.specs.declared.fault.LinesFault.TheVariants.{OutOfMemory}
use Rattle.window_service.proofs.Inputs.{never-stops, no-more-reads}
use Rattle.window_service.proofs.Numbers.{can-run, few-lines}
use Rattle.window_service.proofs.Stops.{all-spent, not-write, reads-on, same-writes, where-open}
use Rattle.query_crew.specs.WindowLines.{IsWindowLine}
use Rattle.std.proofs.Common.{All, subst}
use Rattle.window_service.proofs.windows.answer_windows.Goals as goal

-- once the end was read, the same is left
ended-same : {A : Type 0} {b : Bool} {x y : A} (left : A → Option (List ℕ)) → (b ≡ true → x ≡ y) → b ≡ true → left x ≡ left y
ended-same left same e = ap left (same e)

pub windows-init : goal.windows-init
windows-init g c = record {
  run = (
    [],
    [],
    none-read c.args.reader.now c.args.reader.now.budget (g.S.Source.left c.args.input.now) c.requires.reader,
    λ t is. none-answered t c.args.out.now is c.requires.new c.requires.ready.board,
  );
  ready = c.requires.ready;
  budget = refl;
  read = refl;
  write = refl;
}

pub answer_window-requires-clause-lines : goal.answer_window-requires-clause-lines
answer_window-requires-clause-lines g c =
    let inv = c.windows.invariant in
    let got = c.in_ok-end.ensures.taken in
    let w = rw (c.in-More.is, c.directory.ensures) at got.2 in
    λ κs outlive. can-run c.args.crew.now.directory inv.run.2 got.1 (ended-same g.S.Source.left c.in_ok-end.ensures.ended) c.lines.result.now inv.ready.board (λ t is. (inv.run.3 t is).stands)
    (subst (All IsWindowLine) (sym c.lines.ensures.lines) c.lines.ensures.kept) (c.lines.ensures.lines ∙ w.shown) (omega (arith, got.1.1.budget, inv.budget, c.requires.budget))

pub answer_window-requires-in-End-clause-lines : goal.answer_window-requires-in-End-clause-lines
answer_window-requires-in-End-clause-lines g c =
    let inv = c.windows.invariant in
    let got = c.in_ok-end.ensures.taken in
    let w = rw (c.in-End.is, c.directory.ensures) at got.2 in
    λ κs outlive. can-run c.args.crew.now.directory inv.run.2 got.1 (ended-same g.S.Source.left c.in_ok-end.ensures.ended) c.lines.result.now inv.ready.board (λ t is. (inv.run.3 t is).stands)
    (subst (All IsWindowLine) (sym c.lines.ensures.lines) c.lines.ensures.kept) (c.lines.ensures.lines ∙ w.shown) (omega (arith, got.1.1.budget, inv.budget, c.requires.budget))

pub overflow_add-first : goal.overflow_add-first
overflow_add-first g c =
    let inv = c.windows.invariant in
    let got = c.in_ok-end.ensures.taken in
    let w = rw (c.in-More.is, c.directory.ensures) at got.2 in
    let few = few-lines inv.run.2 got.1 (ended-same g.S.Source.left c.in_ok-end.ensures.ended) in
    omega (arith, few, ap length (c.lines.ensures.lines ∙ w.shown), length-map got.0 (λ x. window_line c.windows.crew.directory (said_by x)), got.1.1.budget, inv.budget, c.requires.budget)

pub windows-preserved : goal.windows-preserved
windows-preserved g c =
    let inv = c.windows.invariant in
    let read = inv.run.2 in
    let got = c.in_ok-end.ensures.taken in
    let w = rw (c.in-More.is, c.directory.ensures) at got.2 in
    let same = ended-same g.S.Source.left c.in_ok-end.ensures.ended in
    let lines_are = c.lines.ensures.lines ∙ w.shown in
    record {
      run = (
        (all-taken read got.1 same).0,
        inv.run.1 ++ got.0 ∷ [],
        read-more read got.1 same _ (omega (arith, ap length (c.lines.ensures.lines ∙ w.shown), length-map got.0 (λ x. window_line c.windows.crew.directory (said_by x)))) w.ended.0,
        λ t is.
            let a = inv.run.3 t is in
            answered-more a (c.in_ok-answer_window-in-More.ensures.answered t.network c.args.crew.now.directory t.state _ got.0 a.stands read.counted lines_are),
      );
      ready = c.in_ok-answer_window-in-More.ensures.ready;
      budget = got.1.1.budget ∙ inv.budget;
      read = same_Some _ _ c.in_ok-end.ensures.reads ∙ inv.read;
      write = same_Some _ _ c.in_ok-answer_window-in-More.ensures.writes ∙ inv.write;
    }

pub returns-in_err-window-clause-begun : goal.returns-in_err-window-clause-begun
returns-in_err-window-clause-begun g c =
    let read = none-read c.args.reader.now c.args.reader.now.budget (g.S.Source.left c.args.input.now) c.requires.reader in
    handed_on c.from_residual.result OutOfMemory _ c.from_residual.ensures.1 (λ t is. begun-so-far memory_not_write read (none-answered t c.args.out.now is c.requires.new c.requires.ready.board))

pub returns-in_err-end-clause-stopped : goal.returns-in_err-end-clause-stopped
returns-in_err-end-clause-stopped g c =
    let run = c.windows.invariant.run in
    let got = c.in_err-end.ensures.taken in
    let f = c.in_err-end.field-0.0 in
    handed_on c.from_residual-in_err-end.result f _ c.from_residual-in_err-end.ensures.1
    (where-open _ _ _ _ _ f got.3 (λ rest not_yet none t is. stopped run.2 got.1 (ended-same g.S.Source.left c.in_err-end.ensures.ended) (run.3 t is) rest not_yet none))

pub returns-in_err-end-clause-begun : goal.returns-in_err-end-clause-begun
returns-in_err-end-clause-begun g c =
    let run = c.windows.invariant.run in
    let got = c.in_err-end.ensures.taken in
    let f = c.in_err-end.field-0.0 in
    handed_on c.from_residual-in_err-end.result f _ c.from_residual-in_err-end.ensures.1
    (λ t is. begun-before run.2 got.1 (ended-same g.S.Source.left c.in_err-end.ensures.ended) (run.3 t is) (not-write _ _ _ _ f got.3))

pub returns-in_err-end-clause-reads : goal.returns-in_err-end-clause-reads
returns-in_err-end-clause-reads g c = same-reads WindowEnd
    c.from_residual-in_err-end.result c.in_err-end.field-0.0 _ _ _ c.from_residual-in_err-end.ensures.1 c.windows.invariant.read c.in_err-end.ensures.reads

pub returns-in_err-end-clause-writes : goal.returns-in_err-end-clause-writes
returns-in_err-end-clause-writes g c = same-writes _ _
    _ _ c.from_residual-in_err-end.result c.in_err-end.field-0.0 _ _ c.from_residual-in_err-end.ensures.1 c.windows.invariant.write c.in_err-end.ensures.taken.3

pub returns-in_err-end-clause-full : goal.returns-in_err-end-clause-full
returns-in_err-end-clause-full g c = λ is.
    let f = c.in_err-end.field-0.0 in
    absurd (not_write_if c.from_residual-in_err-end.result f (not-write _ _ _ _ f c.in_err-end.ensures.taken.3) c.from_residual-in_err-end.ensures.1 is)

pub returns-in_err-end-clause-too_long : goal.returns-in_err-end-clause-too_long
returns-in_err-end-clause-too_long g c = λ is.
    let inv = c.windows.invariant in
    let got = c.in_err-end.ensures.taken in
    let f = c.in_err-end.field-0.0 in
    let all = all-taken inv.run.2 got.1 (ended-same g.S.Source.left c.in_err-end.ensures.ended) in
    let spent = all-spent _ _ _ _ f got.3 (same_fault c.from_residual-in_err-end.result f c.from_residual-in_err-end.ensures.1 is) in
    (all.0, all.1.source, sym all.1.lines_so_far.taken ∙ spent.taken ∙ got.1.1.budget ∙ inv.budget)

pub returns-in_err-end-clause-read_early : goal.returns-in_err-end-clause-read_early
returns-in_err-end-clause-read_early g c = λ is.
    let inv = c.windows.invariant in
    let got = c.in_err-end.ensures.taken in
    let f = c.in_err-end.field-0.0 in
    let all = all-taken inv.run.2 got.1 (ended-same g.S.Source.left c.in_err-end.ensures.ended) in
    let on = reads-on _ _ _ _ f got.3 (same_fault c.from_residual-in_err-end.result f c.from_residual-in_err-end.ensures.1 is) in
    (all.0, all.1.source, omega (arith, all.1.lines_so_far.taken, on.taken, got.1.1.budget, inv.budget))

pub returns-in_err-answer_window-in-More-clause-stopped : goal.returns-in_err-answer_window-in-More-clause-stopped
returns-in_err-answer_window-in-More-clause-stopped g c =
    let f = c.in_err-answer_window-in-More.field-0.0 in
    handed_on c.from_residual-in_err-answer_window-in-More.result f _ c.from_residual-in_err-answer_window-in-More.ensures.1 (never-stops _ f c.in_err-answer_window-in-More.ensures.fault)

pub returns-in_err-answer_window-in-More-clause-begun : goal.returns-in_err-answer_window-in-More-clause-begun
returns-in_err-answer_window-in-More-clause-begun g c =
    let run = c.windows.invariant.run in
    let got = c.in_ok-end.ensures.taken in
    let w = rw (c.in-More.is, c.directory.ensures) at got.2 in
    handed_on c.from_residual-in_err-answer_window-in-More.result c.in_err-answer_window-in-More.field-0.0 _ c.from_residual-in_err-answer_window-in-More.ensures.1 (λ t is.
    let a = run.3 t is in
    begun-more run.2 got.1 (ended-same g.S.Source.left c.in_ok-end.ensures.ended) a w.ended.0
    (c.in_err-answer_window-in-More.ensures.begun t.network c.args.crew.now.directory t.state _ got.0 a.stands run.2.counted (c.lines.ensures.lines ∙ w.shown)))

pub returns-in-End : goal.returns-in-End
returns-in-End g c =
    let inv = c.windows.invariant in
    let run = inv.run in
    let got = c.in_ok-end.ensures.taken in
    let w = rw (c.in-End.is, c.directory.ensures) at got.2 in
    let same = ended-same g.S.Source.left c.in_ok-end.ensures.ended in
    let lines_are = c.lines.ensures.lines ∙ w.shown in
    let run_is = c.answer_window-in-End in
    let names = c.args.crew.now.directory in
    record {
      all = on_ok_weaker run_is.result (λ one t is.
          let a = run.3 t is in
          ended-all run.2 got.1 same a w.ended.0 w.ended.1 (one t.network names t.state _ got.0 a.stands run.2.counted lines_are)) run_is.ensures.answered;
      stopped = IfErr-weaker run_is.result _ _ (λ f none. never-stops _ f none) run_is.ensures.fault;
      begun = IfErr-weaker run_is.result _ _ (λ f b t is.
          let a = run.3 t is in
          begun-last run.2 got.1 same a w.ended.0 w.ended.1 (b t.network names t.state _ got.0 a.stands run.2.counted lines_are)) run_is.ensures.begun;
      reads = c.in_ok-end.ensures.reads ∙ ap Some inv.read ∙ sym (no-more-reads run_is.result _ run_is.ensures.fault);
      writes = run_is.ensures.writes ∙ ap (writes_failed run_is.result) inv.write;
      full = run_is.ensures.full;
      too_long = λ is. absurd (rw is at run_is.ensures.fault);
      read_early = λ is. absurd (rw is at run_is.ensures.fault);
      budget = got.1.1.budget ∙ inv.budget;
    }
