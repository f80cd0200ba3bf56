-- What stays of workers, whatever they answer.
use Rattle.std.specs.Prelude.{◌≡◌, ◌<◌, ◌↔◌, ℕ, IsSome, List, get_or, is_some, length}
use Rattle.query_crew.specs.declared.worker.Worker.{Worker}

-- so much of a worker is as it was: the room for its search, and whether it has a viewer
pub record IsKept {V : Type 0} (old new : Worker V) : Type 0 where
  pub room : new.scratch.room ≡ old.scratch.room
  pub viewer : is_some new.viewer ≡ is_some old.viewer

-- there are as many workers as before, and so much of each is as it was
pub record AreKept {V : Type 0} (old new : List (Worker V)) : Type 0 where
  pub count : length new ≡ length old
  pub each : (k : ℕ) (d : Worker V) → k < length old → IsKept (get_or old k d) (get_or new k d)

-- of these workers the first have a viewer, so many of them, and no others
abbrev pub HaveViewers : {V : Type 0} → ℕ → List (Worker V) → Type 0
HaveViewers {V = V} viewers all = (k : ℕ) (d : Worker V) → k < length all
    → IsSome (get_or all k d).viewer ↔ (k < viewers)
