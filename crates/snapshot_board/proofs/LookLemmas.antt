-- What a look calls, and what it tells.
use Rattle.std.proofs.Common.{◌≡◌, ℕ, ◌^◌, ◌<◌, List, length, Option, Some, sym, ap, subst, ◌∙◌}
use Rattle.std.specs.Borrow.{Bor}
use Rattle.std.specs.Fn.{Once}
use mathlib.Core.List.{IsPrefix}
use Rattle.snapshot_board.specs.States.{meaning_after}
use Rattle.snapshot_board.specs.Knowledge.{Knowledge}
use Rattle.snapshot_board.specs.Looks.{CanLook, Looked}

module _ {F S M St T : Type 0} (g : Once F (Bor S × (ℕ × Unit {0})) T) (meaning : S → St) (after : St → M → St) (opening : Option St) (f : F) where
  pub callable : (v : Knowledge M) (seen learnt : List M) → CanLook g meaning after opening f v → (x : Bor S) (list : List M) (n : ℕ) → n ≡ length list → n < 2 ^ 64
      → meaning_after after opening list ≡ Some (meaning x.now) → seen ≡ v.seen → learnt ≡ v.learnt → IsPrefix seen list → IsPrefix learnt list → g.pre f (x, (n, tt))
  callable v seen learnt can x list n len fits state a b p q =
      subst (λ (k : ℕ). g.pre f (x, (k, tt))) (sym len)
      (can x list state (subst (λ (k : ℕ). k < 2 ^ 64) len fits) (subst (λ (l : List M). IsPrefix l list) a p) (subst (λ (l : List M). IsPrefix l list) b q))

  pub looked : (v : Knowledge M) (seen learnt : List M) (x : Bor S) (list new : List M) (n : ℕ) (r : T) → g.post f (x, (n, tt)) r → n ≡ length new → new ≡ list
      → meaning_after after opening list ≡ Some (meaning x.now) → seen ≡ v.seen → learnt ≡ v.learnt → IsPrefix seen list → IsPrefix learnt list
      → Looked g meaning after opening f v (record { seen = new; learnt = learnt }) r
  looked v seen learnt x list new n r met len is state a b p q =
      let e : list ≡ new = sym is in
      record {
        shown = x;
        called = subst (λ (k : ℕ). g.post f (x, (k, tt)) r) len met;
        state = ap (λ (l : List M). meaning_after after opening l) is ∙ state;
        lists = record {
          later = subst (λ (l : List M). IsPrefix v.seen l) e (subst (λ (l : List M). IsPrefix l list) a p);
          learnt = subst (λ (l : List M). IsPrefix v.learnt l) e (subst (λ (l : List M). IsPrefix l list) b q);
          kept = b;
        };
      }
