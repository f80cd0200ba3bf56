use Rattle.std.proofs.Common.{◌∙◌, sym}
use Rattle.mt_io.proofs.LineFacts.{past_found, past_no_lf}
use Rattle.mt_io.proofs.lines.LineReader.holds_line.Goals as goal

pub returns-in-None-clause-none : goal.returns-in-None-clause-none
returns-in-None-clause-none c =
    let none = rw c.deref.ensures.value at c.in-None.ensures in
    λ _. rw (← c.self.view_is, c.if-not-self.false) (past_no_lf _ none)

pub returns-in-Some-clause-held : goal.returns-in-Some-clause-held
returns-in-Some-clause-held c =
    let found = rw c.deref.ensures.value at c.in-Some.ensures in
    let held = rw c.deref.ensures.value at c.has_line-in-Some.ensures.held in
    λ is. rw (← c.self.view_is, c.if-not-self.false) (λ none. held is (sym (past_found _ _ found.1 found.2) ∙ none))

pub returns-in-Some-clause-none : goal.returns-in-Some-clause-none
returns-in-Some-clause-none c =
    let found = rw c.deref.ensures.value at c.in-Some.ensures in
    let none = rw c.deref.ensures.value at c.has_line-in-Some.ensures.none in
    λ is. rw (← c.self.view_is, c.if-not-self.false) (past_found _ _ found.1 found.2 ∙ none is)
