-- What a look asks and says.
use Rattle.std.specs.Prelude.{◌≡◌, ℕ, ◌^◌, ◌<◌, List, length, Option, Some}
use Rattle.std.specs.Borrow.{Bor}
use Rattle.std.specs.Fn.{Once}
use mathlib.Core.List.{IsPrefix}
use Rattle.snapshot_board.specs.States.{meaning_after}
use Rattle.snapshot_board.specs.Knowledge.{Knowledge, IsLook}

module _ {F S M St T : Type 0} (g : Once F (Bor S × (ℕ × Unit {0})) T)
    (meaning : S → St) (after : St → M → St) (opening : Option St) (f : F) where
  -- f may be called at each value after a list that begins with what the viewer knows
  abbrev pub CanLook : Knowledge M → Type 0
  CanLook v =
      (x : Bor S) (list : List M) → meaning_after after opening list ≡ Some (meaning x.now)
      → length list < 2 ^ 64 → IsPrefix v.seen list → IsPrefix v.learnt list
      → g.pre f (x, (length list, tt))

  -- f was called at the value after the list that is seen now, which begins with all that was seen
  -- and learnt, and gave the answer
  pub record Looked (v w : Knowledge M) (answer : T) : Type 0 where
    pub shown : Bor S
    pub called : g.post f (shown, (length w.seen, tt)) answer
    pub state : meaning_after after opening w.seen ≡ Some (meaning shown.now)
    pub lists : IsLook v w
