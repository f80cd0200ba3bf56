use Rattle.information_service.proofs.Words.{◌++◌, ℕ, List, Err, same_Some, subst, sym, ap, inr, true, false, Appends-trans, Consumes, Line, lines_of, WhereLinesStop}
use Rattle.std.proofs.lemmas.Result.{on_ok_weaker}
use Rattle.information_service.specs.Answering.{IsBeginning, IsWhole}
use Rattle.information_service.specs.Fronts.{AppendsAll}
use Rattle.information_service.specs.declared.fault.LinesFault.TheVariants.{OutOfMemory}
use Rattle.information_service.proofs.Answered.{beginning-of, front-behind, front-of-head, whole-of-taken}
use Rattle.information_service.proofs.Ends.{all_taken, at_most_taken, counts_of, handed_on, memory_not_write, not_write_if, same_fault, where_also}
use Rattle.information_service.proofs.Fronts.{end_was_read, front_after, front_if, front_none, front_of_result, taken_if}
use Rattle.information_service.proofs.output.answer_input.Goals as goal

pub returns-clause-ok : goal.returns-clause-ok
returns-clause-ok g c =
    let o = g.T.AnswerLines.output in
    let first = c.args.service.now in
    let kept = c.args.kept.now in
    let w0 = g.K.Sink.written c.args.out.now in
    let w1 = g.K.Sink.written c.write_beginning.new.out in
    let w2 = g.K.Sink.written c.answer_lines.new.out in
    let w3 = g.K.Sink.written c.end.new.out in
    let all = c.in_ok-answer_lines.ensures.all in
    let head = o.begins first kept in
    let shown = all.3.shown in
    let tail = o.ends c.answer_lines.new.service c.answer_lines.new.kept in
    on_ok_weaker c.end.result (λ wrote. λ bytes told. record {
      shown = head ++ (shown ++ tail);
      is = subst (λ bs. IsWhole o first kept (lines_of true bs) (head ++ (shown ++ tail)))
          (all_taken _ _ bytes all.0 all.3.taken.source (all.3.taken.end all.2.ended) told) (whole-of-taken o all.2 all.3);
      written = Appends-trans w0 w1 w3 head (shown ++ tail) c.in_ok-write_beginning.ensures.ok (Appends-trans w1 w2 w3 shown tail all.3.output wrote);
    }) c.end.ensures.ok

pub returns-clause-ended : goal.returns-clause-ended
returns-clause-ended g c =
    let all = c.in_ok-answer_lines.ensures.all in
    on_ok_weaker c.end.result (λ wrote. all.3.taken.end all.2.ended) c.end.ensures.ok

pub returns-clause-front : goal.returns-clause-front
returns-clause-front g c =
    let o = g.T.AnswerLines.output in
    let w0 = g.K.Sink.written c.args.out.now in
    let w1 = g.K.Sink.written c.write_beginning.new.out in
    let w2 = g.K.Sink.written c.answer_lines.new.out in
    let w3 = g.K.Sink.written c.end.new.out in
    let all = c.in_ok-answer_lines.ensures.all in
    let head = o.begins c.args.service.now c.args.kept.now in
    let shown = all.3.shown in
    let tail = o.ends c.answer_lines.new.service c.answer_lines.new.kept in
    record {
      bytes = all.0;
      took = all.3.taken.source;
      front = inr (
        end_was_read c.args.budget (rw c.in_ok-reader.ensures at c.answer_lines.ensures.budget) all.3.taken all.2.ended,
        inr (
          head ++ (shown ++ tail),
          whole-of-taken o all.2 all.3,
          front_after w0 w1 w3 head (shown ++ tail) c.in_ok-write_beginning.ensures.ok
              (front_after w1 w2 w3 shown tail all.3.output (front_of_result c.end.result w2 w3 tail c.end.ensures.ok c.end.ensures.front)),
        ),
      );
    }

pub returns-in_err-reader-clause-front : goal.returns-in_err-reader-clause-front
returns-in_err-reader-clause-front g c =
    front-of-head _ c.args.service.now c.args.kept.now (g.S.Source.left c.args.input.now) _ _ c.args.budget
    (front_none (λ is. not_write_if c.from_residual.result OutOfMemory memory_not_write c.from_residual.ensures.1 is) (g.K.Sink.written c.args.out.now) _)

pub returns-in_err-write_beginning-clause-front : goal.returns-in_err-write_beginning-clause-front
returns-in_err-write_beginning-clause-front g c =
    front-of-head _ c.args.service.now c.args.kept.now (g.S.Source.left c.args.input.now) _ _ c.args.budget
    (front_if (same_fault c.from_residual-in_err-write_beginning.result c.in_err-write_beginning.field-0.0 c.from_residual-in_err-write_beginning.ensures.1)
    _ _ _ c.in_err-write_beginning.ensures.front)

pub returns-in_err-answer_lines-clause-stopped : goal.returns-in_err-answer_lines-clause-stopped
returns-in_err-answer_lines-clause-stopped g c =
    let o = g.T.AnswerLines.output in
    let first = c.args.service.now in
    let kept = c.args.kept.now in
    let w0 = g.K.Sink.written c.args.out.now in
    let w2 = g.K.Sink.written c.answer_lines.new.out in
    let Has : Type 0 = (bytes : List ℕ) × Consumes (g.S.Source.left c.args.input.now) (g.S.Source.left c.answer_lines.new.input) bytes
    × AppendsAll (IsBeginning o first kept (lines_of false bytes)) w0 w2 in
    handed_on c.from_residual-in_err-answer_lines.result c.in_err-answer_lines.field-0.0 (WhereLinesStop Has) c.from_residual-in_err-answer_lines.ensures.1
    (where_also _ Has c.in_err-answer_lines.field-0.0
    (λ had. (had.0, had.3.taken.source, subst (λ (ls : List Line). AppendsAll (IsBeginning o first kept ls) w0 w2) (sym had.2) (beginning-of o c.in_ok-write_beginning.ensures.ok had.3)))
    c.in_err-answer_lines.ensures.stopped)

pub returns-in_err-answer_lines-clause-front : goal.returns-in_err-answer_lines-clause-front
returns-in_err-answer_lines-clause-front g c =
    taken_if (same_fault c.from_residual-in_err-answer_lines.result c.in_err-answer_lines.field-0.0 c.from_residual-in_err-answer_lines.ensures.1)
    (front-behind c.args.budget (rw c.in_ok-reader.ensures at c.answer_lines.ensures.budget) c.in_ok-write_beginning.ensures.ok c.in_err-answer_lines.ensures.begun.2)

pub returns-in_err-answer_lines-clause-counts : goal.returns-in_err-answer_lines-clause-counts
returns-in_err-answer_lines-clause-counts g c =
    let budget = rw c.in_ok-reader.ensures at c.answer_lines.ensures.budget in
    let e = c.in_err-answer_lines.ensures in
    counts_of c.from_residual-in_err-answer_lines.result c.in_err-answer_lines.field-0.0 c.from_residual-in_err-answer_lines.ensures.1
    (same_Some _ _ c.in_ok-write_beginning.ensures.writes) e.reads e.writes (λ is. e.full (ap Err is))
    (at_most_taken c.args.budget budget e.begun.2.taken) (λ is. rw c.in_ok-reader.ensures at (e.read_early (ap Err is))) (λ is. rw c.in_ok-reader.ensures at (e.too_long (ap Err is)))
