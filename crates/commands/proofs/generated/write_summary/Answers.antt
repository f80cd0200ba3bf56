use Rattle.std.proofs.Common.{List, map, string_bytes, subst, ℕ}
use Rattle.mt_io.specs.Causes.{AppendsPart}
use Rattle.commands.specs.Seen.{stream_seen}
use Rattle.commands.proofs.GenEndings.{gen-not-written}
use Rattle.commands.proofs.generated.write_summary.Goals as goal

pub returns-in_err-put : goal.returns-in_err-put
returns-in_err-put g c =
    let a = g.K.Sink.written c.args.out.now in
    let b = g.K.Sink.written c.put.new.sink in
    record {
      run = gen-not-written (map string_bytes c.args.words.now)
          (stream_seen g.K.Sink.written g.K.Sink.faults c.args.out.now c.put.new.sink) c.args.out.now c.put.new.sink c.from_residual-in_err-put.result
          c.in_ok-asked.asked c.in_ok-line.line.items c.in_ok-asked.ensures.ok c.in_ok-line.ensures.ok c.from_residual-in_err-put.ensures.1
          (c.in_err-put.ensures.cause.failed, c.in_err-put.ensures.full)
          (subst (λ (bytes : List ℕ). AppendsPart a b bytes) c.as_slice.ensures.value c.in_err-put.ensures.failed);
    }
