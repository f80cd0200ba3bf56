-- The steps of the machine.
use Rattle.std.specs.Prelude.{ℕ, ◌≡◌, ◌&&◌, Bool, true, false, List, [], ◌∷◌, ◌++◌, length, max, replicate, nat_le, nat_lt, slice_index_or, slice_set}
use Rattle.snapshot_board.specs.Boards.{BoardState}
use Rattle.snapshot_board.specs.declared.event.Event.{Event}
use Rattle.snapshot_board.specs.declared.event.Event.TheVariants.{Post, Look, Tell, Learn}
use Rattle.snapshot_board.specs.declared.event.ViewerCounts.{ViewerCounts}
use Rattle.snapshot_board.specs.declared.machine.ApplyFault.{ApplyFault}
use Rattle.snapshot_board.specs.declared.machine.ApplyFault.TheVariants.{NotAStep, OutOfMemory}

-- a newcomer: it has seen and learnt nothing
abbrev pub newcomer_counts : ViewerCounts
newcomer_counts = record { seen = 0; least = 0 }

-- nothing is posted or noted
abbrev pub at_opening : {M : Type 0} → ℕ → BoardState M
at_opening viewers = record { posted = []; notes = []; viewers = replicate viewers newcomer_counts }

-- what this viewer knows
abbrev pub counts_of : {M : Type 0} → BoardState M → ℕ → ViewerCounts
counts_of s viewer = slice_index_or s.viewers viewer newcomer_counts

-- a viewer that knows so much may look at so many of the posts
abbrev pub may_look : ViewerCounts → ℕ → ℕ → Bool
may_look c count posts = nat_le c.seen count && nat_le c.least count && nat_le count posts

-- whether the event is a step
abbrev pub is_step : {M : Type 0} → BoardState M → Event M → Bool
is_step s (Post m) = true
is_step s (Look viewer count) =
    nat_lt viewer (length s.viewers)
    && may_look (counts_of s viewer) count (length s.posted)
is_step s Tell = true
is_step s (Learn viewer note) =
    nat_lt viewer (length s.viewers) && nat_lt note (length s.notes)

-- this viewer saw so many
abbrev pub with_seen : List ViewerCounts → ℕ → ℕ → List ViewerCounts
with_seen viewers viewer count =
    slice_set viewers viewer
    (record { seen = count; least = (slice_index_or viewers viewer newcomer_counts).least })

-- this viewer learnt of so many
abbrev pub with_learnt : List ViewerCounts → ℕ → ℕ → List ViewerCounts
with_learnt viewers viewer count =
    let c = slice_index_or viewers viewer newcomer_counts in
    slice_set viewers viewer (record { seen = c.seen; least = max c.least count })

-- the state after a step
abbrev pub after_event : {M : Type 0} → BoardState M → Event M → BoardState M
after_event s (Post m) =
    record { posted = s.posted ++ m ∷ []; notes = s.notes; viewers = s.viewers }
after_event s (Look viewer count) =
    record { posted = s.posted; notes = s.notes; viewers = with_seen s.viewers viewer count }
after_event s Tell =
    record { posted = s.posted; notes = s.notes ++ length s.posted ∷ []; viewers = s.viewers }
after_event s (Learn viewer note) =
    record {
      posted = s.posted;
      notes = s.notes;
      viewers = with_learnt s.viewers viewer (slice_index_or s.notes note 0);
    }

-- only posts and notes take memory
abbrev pub takes_memory : {M : Type 0} → Event M → Bool
takes_memory (Post m) = true
takes_memory (Look viewer count) = false
takes_memory Tell = true
takes_memory (Learn viewer note) = false

-- the event is handed back: it is no step, or it takes memory
abbrev pub IsFault : {M : Type 0} → BoardState M → Event M → ApplyFault M → Type 0
IsFault s e (NotAStep back) = (back ≡ e) × (is_step s e ≡ false)
IsFault s e (OutOfMemory back) =
    (back ≡ e) × (is_step s e ≡ true) × (takes_memory e ≡ true)
