use Rattle.std.proofs.Common.{◌∙◌, arith, sym, subst, List, ℕ, length-drop}
use Rattle.std.proofs.KnownBytes.{Appends-trans}
use Rattle.std.proofs.Math.Seq.{take-add}
use Rattle.std.proofs.lemmas.List.{take_rest}
use Rattle.std.specs.Io.KnownBytes.{Appends}
use Rattle.mt_io.proofs.traits.put.Goals as goal

pub loop-done-preserved : goal.loop-done-preserved
loop-done-preserved g c =
    let bytes : List ℕ = c.args.bytes.now in
    let wrote = rw (take_rest bytes c.loop-done.done) at c.in_ok-done.ensures in (
      omega (arith, wrote.bound, length-drop c.loop-done.done bytes),
      wrote.cause.answered ∙ c.loop-done.invariant.1,
      subst (Appends (g.K.Sink.written c.args.sink.now) (g.K.Sink.written c.write.new.self)) (sym (take-add c.loop-done.done c.in_ok-done.field-0 bytes)) (Appends-trans _ _ _ _ _ c.loop-done.invariant.2 wrote.bytes),
    )
