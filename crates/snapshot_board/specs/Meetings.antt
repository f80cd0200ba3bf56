-- What a meeting says, and how a viewer begins.
use Rattle.std.specs.Prelude.{◌≡◌, ◌<◌, ◌≤◌, List, [], length}
use mathlib.Core.List.{IsPrefix}
use Rattle.snapshot_board.specs.Knowledge.{Knowledge}
use Rattle.snapshot_board.specs.declared.meeting.Meet.{Meet}
use Rattle.snapshot_board.specs.declared.meeting.Meet.TheVariants.{Within, Apart}

-- a newcomer has seen and learnt nothing
abbrev pub newcomer : {M : Type 0} → Knowledge M
newcomer = record { seen = []; learnt = [] }

-- the numbers are the lengths, and they decide. Within, what the viewer had seen is a beginning of
-- what was posted
abbrev pub IsMeeting : {M : Type 0} → Meet → List M → List M → Type 0
IsMeeting (Within viewer publisher) seen posted =
    (viewer ≡ length seen) × (publisher ≡ length posted) × (viewer ≤ publisher)
    × IsPrefix seen posted
IsMeeting (Apart viewer publisher) seen posted =
    (viewer ≡ length seen) × (publisher ≡ length posted) × (publisher < viewer)
