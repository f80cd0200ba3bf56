-- The lists and marks of a timetable before there is anything in them.
use Rattle.std.specs.Prelude.{◌≡◌, ℕ, [], vec_capacity}
use Rattle.timetable.specs.declared.lists.Lists.{Lists}
use Rattle.timetable.specs.Settled.{IsRoomy}

-- nothing is listed or marked, and there is room for so many live events
pub record AreEmpty (most : ℕ) (lists : Lists) : Type 0 where
  pub changed : lists.changed.items ≡ []
  pub unmarked : lists.marks.keys ≡ []
  pub time_changes : lists.time_changes.items ≡ []
  pub roomy : IsRoomy most (vec_capacity lists.changed) lists.marks.room
      (vec_capacity lists.time_changes)
