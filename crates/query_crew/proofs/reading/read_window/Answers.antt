use Rattle.query_crew.proofs.Words.{Option, WindowLine, same_Some, ◌<◌, ◌∙◌, ◌∷◌, ◌++◌, [], length, ap, sym, refl}
use Rattle.std.proofs.lemmas.Result.{IfOk-from_err}
use Rattle.query_crew.proofs.Filling.{begun-none, begun-more, filled, none-came, stopped, fewer, handed-on, same-reads}
use Rattle.query_crew.proofs.reading.read_window.Goals as goal

pub lines-init : goal.lines-init
lines-init g c = record {
  begun = ([], begun-none c.args.directory.now c.args.reader.now (g.S.Source.left c.args.input.now) c.clear.new.self c.clear.ensures);
  reads = refl;
  ended = λ is. refl;
}

pub returns-in_err-line-clause-taken : goal.returns-in_err-line-clause-taken
returns-in_err-line-clause-taken g c =
    let b = c.lines.invariant.begun in
    let got = c.in_err-line.ensures.taken in
    let f = c.in_err-line.field-0.0 in
    let few : length b.0 < 256 = fewer c.args.directory.now b.0 c.lines.window b.1.shown b.1.most (sym c.is_full.ensures ∙ c.lines-test.true) in
    let all = stopped b.1 got.1 (λ is. ap g.S.Source.left (c.in_err-line.ensures.ended is)) f few got.3 in
    rw c.in_err-line.ensures.unchanged (all.0, all.1, IfOk-from_err c.from_residual.result _ c.from_residual.ensures.0, handed-on c.from_residual.result f _ c.from_residual.ensures.1 all.2)

pub returns-in_err-line-clause-reads : goal.returns-in_err-line-clause-reads
returns-in_err-line-clause-reads g c = same-reads (Option WindowLine) c.from_residual.result c.in_err-line.field-0.0 _ _ _ c.from_residual.ensures.1 c.lines.invariant.reads c.in_err-line.ensures.reads

pub returns-then-ends-clause-taken : goal.returns-then-ends-clause-taken
returns-then-ends-clause-taken g c =
    let b = c.lines.invariant.begun in
    let got = c.in_ok-line.ensures.taken in
    let one = rw c.in-Some.is at got.2 in
    let few : length b.0 < 256 = fewer c.args.directory.now b.0 c.lines.window b.1.shown b.1.most (sym c.is_full.ensures ∙ c.lines-test.true) in
    let all = filled b.1 got.1 (λ is. ap g.S.Source.left (c.in_ok-line.ensures.ended is)) c.in-Some.line one few (sym c.is_flush-ends.ensures ∙ c.if-ends.true) in
    rw (c.push.ensures, c.in_ok-line.ensures.unchanged) (all.0, all.1, all.2, tt)

pub lines-preserved : goal.lines-preserved
lines-preserved g c =
    let inv = c.lines.invariant in
    let b = inv.begun in
    let got = c.in_ok-line.ensures.taken in
    let one = rw c.in-Some.is at got.2 in
    let few : length b.0 < 256 = fewer c.args.directory.now b.0 c.lines.window b.1.shown b.1.most (sym c.is_full.ensures ∙ c.lines-test.true) in
    let same = c.in_ok-line.ensures.ended in
    record {
      begun = (b.0 ++ one.line ∷ [], rw (c.push.ensures, c.in_ok-line.ensures.unchanged) (begun-more b.1 got.1 (λ is. ap g.S.Source.left (same is)) c.in-Some.line one few (sym c.is_flush-ends.ensures ∙ c.if-ends.false)));
      reads = same_Some _ _ c.in_ok-line.ensures.reads ∙ inv.reads;
      ended = λ is. same (b.1.taken.1.still_ended is).0 ∙ inv.ended is;
    }

pub returns-in_default-clause-taken : goal.returns-in_default-clause-taken
returns-in_default-clause-taken g c =
    let b = c.lines.invariant.begun in
    let got = c.in_ok-line.ensures.taken in
    let none = rw c.in_default.is at got.2 in
    let few : length b.0 < 256 = fewer c.args.directory.now b.0 c.lines.window b.1.shown b.1.most (sym c.is_full.ensures ∙ c.lines-test.true) in
    let all = none-came b.1 got.1 (λ is. ap g.S.Source.left (c.in_ok-line.ensures.ended is)) none.0 few none.1 in
    rw c.in_ok-line.ensures.unchanged (all.0, all.1, all.2, tt)
