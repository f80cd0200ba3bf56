use Rattle.information_service.proofs.Words.{Some, same_Some, ◌≤◌, ◌≡◌, ◌≢◌, ◌+◌, List, ℕ, [], ◌∷◌, ◌++◌, Option, true, length, refl, sym, ap, ◌∙◌, arith, Line, Reader, GivesNext, next_lines}
use Rattle.std.proofs.lemmas.List.{length-append}
use Rattle.mt_io.specs.Causes.{counted}
use Rattle.mt_io.specs.declared.lines.Next.TheVariants as next
use Rattle.mt_io.proofs.FewLines.{few_answered}
use Rattle.mt_io.proofs.Runs.{none_was_held, stops}
use Rattle.information_service.specs.Answering.{given_line}
use Rattle.information_service.specs.Fronts.{IsTaken}
use Rattle.information_service.specs.declared.fault.LinesFault.TheVariants.{OutOfMemory}
use Rattle.information_service.proofs.Ends.{handed_on, memory_not_write, read_not_write, long_not_write}
use Rattle.information_service.proofs.Answered.{all-written, begun-by, gathered-begun, line-begun, line-more, none-more, nothing-answered, nothing-gathered, written-more}
use Rattle.information_service.proofs.ShortLines.{next_short}
use Rattle.information_service.proofs.OneMore.{taken-more}
use Rattle.information_service.proofs.lines.answer_lines.Goals as goal
use Rattle.information_service.proofs.lines.answer_lines.Goals.{in-Line, in-LongLine}

pub lines-init : goal.lines-init
lines-init g c = record {
  answered = ([], [], nothing-gathered _ c.args.service.now c.args.kept.now c.args.reader.now.budget c.args.reader.now (g.S.Source.left c.args.input.now) (g.K.Sink.written c.args.out.now) _ c.requires.reader c.in_ok-gathered.ensures.items, refl);
  count = omega arith;
  fits = c.requires.fits;
  budget = refl;
  read = refl;
  write = refl;
}

-- one line more is numbered within the number of bytes that may be taken
one-fits : {old new : Reader} {left left_old left_new : Option (List ℕ)} {bytes : List ℕ} {lines : List Line} (before : ℕ) (x : Line)
    → IsTaken old left left_old bytes lines → before ≡ length lines → (old.ended ≡ true → left_new ≡ left_old)
    → GivesNext old new left_old left_new (x ∷ []) → before + 1 ≤ new.budget
one-fits {new = new} {lines = lines} before x taken is same gives =
    let all = taken-more taken same gives in
    omega (arith, is, length-append lines (x ∷ []), few_answered new all.0 (lines ++ x ∷ []) all.1.lines_so_far, all.1.within.taken)

pub returns-in-End-clause-all : goal.returns-in-End-clause-all
returns-in-End-clause-all g c =
    let a = c.lines.invariant.answered in
    let empty = c.in_ok-write_before_read.ensures.empty (none_was_held _ _ _ _ c.next.result c.next.follows.holds-at-none.0 c.next.follows.holds-at-none.1 (ap next_lines c.in-End.is)) in
    let got = none-more (all-written (written-more a.2 _ c.in_ok-write_before_read.ensures.ok) empty) c.next.result next.End c.in-End.is refl (λ is. ap g.S.Source.left (c.next.ensures.ended is)) c.next.follows.holds-at-none in
    (got.0, a.1, got.2, got.1)

pub returns-in-ReadFault : goal.returns-in-ReadFault
returns-in-ReadFault g c =
    let inv = c.lines.invariant in
    let a = inv.answered in
    let empty = c.in_ok-write_before_read.ensures.empty (none_was_held _ _ _ _ c.next.result c.next.follows.holds-at-none.0 c.next.follows.holds-at-none.1 (ap next_lines c.in-ReadFault.is)) in
    let got = none-more (all-written (written-more a.2 _ c.in_ok-write_before_read.ensures.ok) empty) c.next.result next.ReadFault c.in-ReadFault.is refl (λ is. ap g.S.Source.left (c.next.ensures.ended is)) c.next.follows.holds-at-none in
    record {
      all = tt;
      stopped = (got.0, a.1, stops got.0 a.1 c.next.follows.lender-at-none got.1.taken.lines_so_far got.2.ended got.2.none, got.1);
      begun = (got.0, a.1, begun-by got.1 read_not_write);
      reads = c.next.ensures.read_fault c.in-ReadFault.is ∙ ap counted inv.read;
      writes = ap Some (same_Some _ _ c.in_ok-write_before_read.ensures.writes ∙ inv.write);
      full = grind arith;
      too_long = grind arith;
      read_early = λ is. (got.0, got.1.taken.source, omega (arith, got.1.taken.lines_so_far.taken, got.2.taken, c.next.follows.holds-at-none.0.1.budget, inv.budget));
      budget = c.next.follows.holds-at-none.0.1.budget ∙ inv.budget;
    }

pub returns-in-Budget : goal.returns-in-Budget
returns-in-Budget g c =
    let inv = c.lines.invariant in
    let a = inv.answered in
    let empty = c.in_ok-write_before_read.ensures.empty (none_was_held _ _ _ _ c.next.result c.next.follows.holds-at-none.0 c.next.follows.holds-at-none.1 (ap next_lines c.in-Budget.is)) in
    let got = none-more (all-written (written-more a.2 _ c.in_ok-write_before_read.ensures.ok) empty) c.next.result next.Budget c.in-Budget.is refl (λ is. ap g.S.Source.left (c.next.ensures.ended is)) c.next.follows.holds-at-none in
    record {
      all = tt;
      stopped = (got.0, a.1, stops got.0 a.1 c.next.follows.lender-at-none got.1.taken.lines_so_far got.2.ended got.2.none, got.1);
      begun = (got.0, a.1, begun-by got.1 long_not_write);
      reads = ap Some (c.next.ensures.answered (λ is. grind (arith, is, c.in-Budget.is)) ∙ inv.read);
      writes = ap Some (same_Some _ _ c.in_ok-write_before_read.ensures.writes ∙ inv.write);
      full = grind arith;
      too_long = λ is. (got.0, got.1.taken.source, sym got.1.taken.lines_so_far.taken ∙ got.2.taken ∙ c.next.follows.holds-at-none.0.1.budget ∙ inv.budget);
      read_early = grind arith;
      budget = c.next.follows.holds-at-none.0.1.budget ∙ inv.budget;
    }

-- what was taken is the line that is answered
pub overflow_add-before : goal.overflow_add-before
overflow_add-before g c =
    let inv = c.lines.invariant in
    let gives = c.next.follows.holds-at-none.0 in
    let is : next_lines c.next.result ≡ given_line c.match-next.line ∷ [] =
    elim c.match-next.branch [ in-Line w ↦ rw (w.in-Line.is, w.line-is) refl | in-LongLine w ↦ rw (w.in-LongLine.is, w.line-is) refl ] in
    omega (arith, one-fits c.lines.before (given_line c.match-next.line) inv.answered.2.taken inv.answered.3 (λ e. ap g.S.Source.left (c.next.ensures.ended e)) (rw is at gives), gives.1.budget, inv.budget, c.requires.budget)

pub answer_line-requires-clause-count : goal.answer_line-requires-clause-count
answer_line-requires-clause-count g c =
    let inv = c.lines.invariant in
    let gives = c.next.follows.holds-at-none.0 in
    let is : next_lines c.next.result ≡ given_line c.match-next.line ∷ [] =
    elim c.match-next.branch [ in-Line w ↦ rw (w.in-Line.is, w.line-is) refl | in-LongLine w ↦ rw (w.in-LongLine.is, w.line-is) refl ] in
    let fits = one-fits c.lines.before (given_line c.match-next.line) inv.answered.2.taken inv.answered.3 (λ e. ap g.S.Source.left (c.next.ensures.ended e)) (rw is at gives) in
    omega (arith, inv.count, fits, gives.1.budget, inv.budget, c.requires.count)

pub answer_line-requires-clause-few : goal.answer_line-requires-clause-few
answer_line-requires-clause-few g c = elim c.match-next.branch [
  | in-Line w ↦
      let short = next_short c.next.result w.in-Line.bytes w.in-Line.is c.lines.reader c.next.follows.lender-at-none
      (g.S.Source.left c.lines.input) (g.S.Source.left c.next.new.source) c.next.follows.holds-at-none.0 in
      rw w.line-is (omega (arith, short))
  | in-LongLine w ↦ rw w.line-is tt
]

pub overflow_add-before-in-lines : goal.overflow_add-before-in-lines
overflow_add-before-in-lines g c =
    let inv = c.lines.invariant in
    let gives = c.next.follows.holds-at-none.0 in
    let is : next_lines c.next.result ≡ given_line c.match-next.line ∷ [] =
    elim c.match-next.branch [ in-Line w ↦ rw (w.in-Line.is, w.line-is) refl | in-LongLine w ↦ rw (w.in-LongLine.is, w.line-is) refl ] in
    omega (arith, one-fits c.lines.before (given_line c.match-next.line) inv.answered.2.taken inv.answered.3 (λ e. ap g.S.Source.left (c.next.ensures.ended e)) (rw is at gives), gives.1.budget, inv.budget, c.requires.budget)

pub lines-preserved : goal.lines-preserved
lines-preserved g c =
    let inv = c.lines.invariant in
    let a = inv.answered in
    let x = given_line c.match-next.line in
    let is : next_lines c.next.result ≡ x ∷ [] = elim c.match-next.branch [ in-Line w ↦ rw (w.in-Line.is, w.line-is) refl | in-LongLine w ↦ rw (w.in-LongLine.is, w.line-is) refl ] in
    let no_fault : c.next.result ≢ next.ReadFault = elim c.match-next.branch [ in-Line w ↦ (λ e. grind (arith, e, w.in-Line.is)) | in-LongLine w ↦ (λ e. grind (arith, e, w.in-LongLine.is)) ] in
    let more = line-more (written-more a.2 _ c.in_ok-write_before_read.ensures.ok) _ x (c.lines.before + 1) (λ e. ap g.S.Source.left (c.next.ensures.ended e)) (rw is at c.next.follows.holds-at-none.0) (ap (λ n. n + 1) a.3) c.in_ok-answer_line.ensures.ok in
    record {
      answered = (more.0, a.1 ++ x ∷ [], more.1, omega (arith, a.3, length-append a.1 (x ∷ [])));
      count = omega (arith, c.in_ok-answer_line.ensures.count, inv.count);
      fits = c.in_ok-answer_line.ensures.fits;
      budget = c.next.follows.holds-at-none.0.1.budget ∙ inv.budget;
      read = c.next.ensures.answered no_fault ∙ inv.read;
      write = same_Some _ _ c.in_ok-answer_line.ensures.writes ∙ same_Some _ _ c.in_ok-write_before_read.ensures.writes ∙ inv.write;
    }

pub returns-in_err-answer_line-clause-begun : goal.returns-in_err-answer_line-clause-begun
returns-in_err-answer_line-clause-begun g c =
    let a = c.lines.invariant.answered in
    let x = given_line c.match-next.line in
    let is : next_lines c.next.result ≡ x ∷ [] = elim c.match-next.branch [ in-Line w ↦ rw (w.in-Line.is, w.line-is) refl | in-LongLine w ↦ rw (w.in-LongLine.is, w.line-is) refl ] in
    handed_on c.from_residual-in_err-answer_line.result c.in_err-answer_line.field-0.0 _ c.from_residual-in_err-answer_line.ensures.1
    (line-begun (written-more a.2 _ c.in_ok-write_before_read.ensures.ok) x (c.lines.before + 1) (λ e. ap g.S.Source.left (c.next.ensures.ended e)) (rw is at c.next.follows.holds-at-none.0) (ap (λ n. n + 1) a.3) c.in_err-answer_line.ensures.front)

pub returns-in_err-gathered-clause-begun : goal.returns-in_err-gathered-clause-begun
returns-in_err-gathered-clause-begun g c =
    let none = nothing-answered g.T.AnswerLines.output.answers c.args.service.now c.args.kept.now c.args.reader.now.budget c.args.reader.now (g.S.Source.left c.args.input.now) (g.K.Sink.written c.args.out.now) c.requires.reader in
    handed_on c.from_residual.result OutOfMemory _ c.from_residual.ensures.1 ([], [], begun-by none memory_not_write)

pub returns-in_err-write_before_read-clause-begun : goal.returns-in_err-write_before_read-clause-begun
returns-in_err-write_before_read-clause-begun g c =
    let a = c.lines.invariant.answered in
    handed_on c.from_residual-in_err-write_before_read.result c.in_err-write_before_read.field-0.0 _ c.from_residual-in_err-write_before_read.ensures.1
    (a.0, a.1, gathered-begun a.2 c.in_err-write_before_read.ensures.front)
