-- What publishing one operation shows.
use Rattle.std.proofs.Common.{◌≡◌, ◌==◌, Bool, true, cond, List, [], ◌∷◌, ◌++◌, length, fold, ap, ◌∙◌, sym, arith}
use Rattle.std.proofs.lemmas.Bool.Decides.{nat_tests}
use Rattle.snapshot_board.specs.States.{taken_in}

as_many : {M : Type 0} (xs ys : List M) → xs ≡ ys → (length xs == length ys) ≡ true
as_many xs ys e = let n : length xs ≡ length ys = ap length e in grind (arith, nat_tests, n)

-- the message that is next is taken
taken_next : {St M : Type 0} (after : St → M → St) (s : St × List M) (m : M) (before : List M) → s.1 ≡ before → (taken_in after s m before).1 ≡ before ++ m ∷ []
taken_next {St} {M} after s m before e = ap (λ (b : Bool). (cond b (after s.0 m, before ++ m ∷ []) s).1) (as_many s.1 before e)

-- the operation a, before which none waits, puts m behind the messages before
pub shown_next : {St M A : Type 0} (applied : St × List M → A → St × List M) (after : St → M → St) (s t : St × List M) (a : A) (m : M) (before list next : List M) (waiting : List A)
    → t ≡ fold applied s (waiting ++ a ∷ []) → waiting ≡ [] → applied s a ≡ taken_in after s m before → s.1 ≡ list → list ≡ before → next ≡ before ++ m ∷ [] → t.1 ≡ next
shown_next applied after s t a m before list next waiting is none does here same now =
    let k : t ≡ taken_in after s m before = is ∙ (ap (λ acts. fold applied s (acts ++ a ∷ [])) none ∙ does) in
    ap (λ x. x.1) k ∙ (taken_next after s m before (here ∙ same) ∙ sym now)
