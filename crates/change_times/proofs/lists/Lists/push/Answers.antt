use Rattle.change_times.proofs.Words.{rules, ◌≡◌, ◌∙◌, ◌++◌, ◌∷◌, [], length, ap}
use Rattle.change_times.proofs.CutLemmas.{one-more, more-ends}
use Rattle.change_times.proofs.lists.Lists.push.Goals as goal

changes : (c : goal.In_ok-push) → c.extend_from_slice.new.self.items ≡ c.self.inside.changes.items ++ c.args.list.now
changes c = c.in_ok-extend_from_slice.ensures.items

ends : (c : goal.In_ok-push) → c.push.new.self.items ≡ c.self.inside.ends.items ++ length (c.self.inside.changes.items ++ c.args.list.now) ∷ []
ends c =
    let e : c.len.result ≡ length (c.self.inside.changes.items ++ c.args.list.now) = search rules in
    c.in_ok-push.ensures.items ∙ ap (λ es. es ++ c.len.result ∷ []) c.in_ok-reserve.ensures.items ∙ ap (λ n. c.self.inside.ends.items ++ n ∷ []) e

pub invariant_of-self-2 : goal.invariant_of-self-2
invariant_of-self-2 c =
    rw (ends c, changes c) (more-ends 0 c.self.inside.ends.items c.self.inside.changes.items c.args.list.now c.self.invariant)

pub returns : goal.returns
returns c =
    rw (ends c, changes c) (one-more 0 c.self.inside.ends.items c.self.inside.changes.items c.args.list.now c.self.invariant ∙ ap (λ ls. ls ++ c.args.list.now ∷ []) c.self.view_is)
