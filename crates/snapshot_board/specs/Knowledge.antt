-- What a viewer knows, and how it comes to know more.
use Rattle.std.specs.Prelude.{◌≡◌, ◌⊎◌, List}
use mathlib.Core.List.{IsPrefix}

-- the list that it saw, and the list that it learnt
pub record Knowledge (M : Type 0) : Type 0 where
  pub seen : List M
  pub learnt : List M

-- a look: the list that is seen then begins with all that was seen and learnt
pub record IsLook {M : Type 0} (old new : Knowledge M) : Type 0 where
  pub later : IsPrefix old.seen new.seen
  pub learnt : IsPrefix old.learnt new.seen
  pub kept : new.learnt ≡ old.learnt

-- a note is learnt: what is learnt then is the longer of the two lists
pub record LearnsNote {M : Type 0} (told : List M) (old new : Knowledge M) : Type 0 where
  pub kept : new.seen ≡ old.seen
  pub one : (new.learnt ≡ old.learnt) ⊎ (new.learnt ≡ told)
  pub before : IsPrefix old.learnt new.learnt
  pub note : IsPrefix told new.learnt
