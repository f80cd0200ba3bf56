-- How the viewers and notes of a board stand in the machine.
use Rattle.std.specs.Prelude.{ℕ, ◌≡◌, ◌≢◌, ◌<◌, List, length, slice_index_or}
use mathlib.Core.List.{IsPrefix}
use Rattle.snapshot_board.specs.Boards.{BoardState}
use Rattle.snapshot_board.specs.Knowledge.{Knowledge}
use Rattle.snapshot_board.specs.Machines.{counts_of}
use Rattle.snapshot_board.specs.declared.event.Event.{Event}
use Rattle.snapshot_board.specs.declared.event.Event.TheVariants.{Post, Look, Tell, Learn}

-- the machine has this viewer, and counts how much it saw and learnt; all of that was posted
pub record HasViewer {M : Type 0} (s : BoardState M) (v : ℕ) (k : Knowledge M) : Type 0 where
  pub there : v < length s.viewers
  pub seen : (counts_of s v).seen ≡ length k.seen
  pub least : (counts_of s v).least ≡ length k.learnt
  pub seen_posted : IsPrefix k.seen s.posted
  pub learnt_posted : IsPrefix k.learnt s.posted

-- the machine has this note, and it holds how much was posted when it was told
pub record HasNote {M : Type 0} (s : BoardState M) (note : ℕ) (told : List M) : Type 0 where
  pub there : note < length s.notes
  pub count : slice_index_or s.notes note 0 ≡ length told
  pub posted : IsPrefix told s.posted

-- the event is not a step of this viewer
abbrev pub IsByOthers : {M : Type 0} → ℕ → Event M → Type 0
IsByOthers v (Post m) = Unit {0}
IsByOthers v (Look viewer count) = v ≢ viewer
IsByOthers v Tell = Unit {0}
IsByOthers v (Learn viewer note) = v ≢ viewer
