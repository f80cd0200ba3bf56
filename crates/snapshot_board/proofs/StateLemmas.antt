-- The meaning after one message more.
use Rattle.std.proofs.Common.{◌≡◌, List, [], ◌∷◌, ◌++◌, fold, Option, Some, None, refl, ap, sym, ◌∙◌}
use mathlib.Core.Logic.{∥∥₁_elim}
use base.Stored.{Coded, Coded-set}
use Rattle.std.specs.Coded.{coded_option}
use Rattle.snapshot_board.specs.States.{meaning_after}

-- a truncated equation of meanings is one, since meanings are a set
pub known : {St : Type 0} → Coded St → (o p : Option St) → ∥ o ≡ p ∥₁ → o ≡ p
known code o p h = ∥∥₁_elim h (Coded-set (coded_option code) _ _) (λ e. e)

pub fold_one_more : {St M : Type 0} (after : St → M → St) (s : St) (xs : List M) (m : M) → fold after s (xs ++ m ∷ []) ≡ after (fold after s xs) m
fold_one_more after s [] m = refl
fold_one_more after s (x ∷ xs) m = fold_one_more after (after s x) xs m

pub follows_next : {St M : Type 0} (after : St → M → St) (o : Option St) (list : List M) (m : M) (x y : St)
    → meaning_after after o list ≡ Some x → y ≡ after x m → meaning_after after o (list ++ m ∷ []) ≡ Some y
follows_next after None list m x y h e = absurd (cc h)
follows_next after (Some s) list m x y h e =
    let k : fold after s list ≡ x = cc h in
    ap Some (fold_one_more after s list m ∙ (ap (λ t. after t m) k ∙ sym e))

-- what another value means after one message more
pub follows_other : {St M : Type 0} (after : St → M → St) (o : Option St) (list : List M) (m : M) (x z : St)
    → meaning_after after o list ≡ Some x → meaning_after after o (list ++ m ∷ []) ≡ Some z → z ≡ after x m
follows_other after o list m x z h k =
    let next = follows_next after o list m x (after x m) h refl in cc (h, k, next)
