use Rattle.std.proofs.Common.{◌≡◌, false, arith, inl, inr, refl}
use Rattle.mt_io.proofs.Cuts.{cut_in, long_in}
use Rattle.mt_io.proofs.lines.LineReader.cut.Goals as goal

pub returns-in-Some-clause-found : goal.returns-in-Some-clause-found
returns-in-Some-clause-found c =
    let r = c.self.inside in
    let flag : r.inside_long ≡ false = rw (← c.self.view_is) at c.requires in
    let found = rw c.deref.ensures.value at c.in-Some.ensures in
    (inl refl, λ rest ended. rw (← c.self.view_is, flag) (cut_in ended r.buf.items r.start c.min-limit.result r.end c.in-Some.i rest (omega arith) (omega arith) (omega arith) found.0 found.1 found.2))

pub returns-in-None-clause-found : goal.returns-in-None-clause-found
returns-in-None-clause-found c =
    let r = c.self.inside in
    let flag : r.inside_long ≡ false = rw (← c.self.view_is) at c.requires in
    let none = rw c.deref.ensures.value at c.in-None.ensures in
    (inr refl, λ rest ended. rw (← c.self.view_is, flag) (long_in ended r.buf.items r.start c.min-limit.result r.end rest (omega arith) (omega arith) c.if-limit-self-eq-LONG.true (omega arith) none))
