-- Lists of events.
use Rattle.std.specs.Prelude.{ℕ, ◌+◌, ◌≤◌, ◌==◌, cond, List, [], ◌∷◌, ◌++◌, length, fold, All, slice_index_or}
use Rattle.snapshot_board.specs.Boards.{BoardState}
use Rattle.snapshot_board.specs.Machines.{is_step, after_event}
use Rattle.snapshot_board.specs.declared.event.Event.{Event}
use Rattle.snapshot_board.specs.declared.event.Event.TheVariants.{Post, Look, Tell, Learn}
use Rattle.snapshot_board.specs.declared.event.ViewerCounts.{ViewerCounts}

-- the events that are accepted, one after the other
abbrev pub accepted : {M : Type 0} → BoardState M → List (Event M) → List (Event M)
accepted s [] = []
accepted s (e ∷ es) = cond (is_step s e) (e ∷ accepted (after_event s e) es) (accepted s es)

-- the state after the accepted ones of these events
abbrev pub after_events : {M : Type 0} → BoardState M → List (Event M) → BoardState M
after_events s es = fold after_event s (accepted s es)

-- this viewer counts no more than so many
abbrev pub CountsWithin : ℕ → ViewerCounts → Type 0
CountsWithin posts c = (c.seen ≤ posts) × (c.least ≤ posts)

-- no note and no viewer counts more than was posted
pub record IsWithin {M : Type 0} (s : BoardState M) : Type 0 where
  pub notes : All (λ n. n ≤ length s.posted) s.notes
  pub viewers : All (CountsWithin (length s.posted)) s.viewers

-- the number of posts among these events
abbrev pub posts_in : {M : Type 0} → List (Event M) → ℕ
posts_in [] = 0
posts_in (Post m ∷ es) = 1 + posts_in es
posts_in (Look viewer count ∷ es) = posts_in es
posts_in (Tell ∷ es) = posts_in es
posts_in (Learn viewer note ∷ es) = posts_in es

-- the counts of this viewer's looks among these events
abbrev pub looks_of : {M : Type 0} → ℕ → List (Event M) → List ℕ
looks_of v [] = []
looks_of v (Post m ∷ es) = looks_of v es
looks_of v (Look viewer count ∷ es) = cond (viewer == v) (count ∷ looks_of v es) (looks_of v es)
looks_of v (Tell ∷ es) = looks_of v es
looks_of v (Learn viewer note ∷ es) = looks_of v es

-- the counts that this viewer learns by these events, where so many posts and these notes came
-- before: what a note holds is the number of posts when it was told
abbrev pub learns_from : {M : Type 0} → ℕ → ℕ → List ℕ → List (Event M) → List ℕ
learns_from v posts notes [] = []
learns_from v posts notes (Post m ∷ es) = learns_from v (posts + 1) notes es
learns_from v posts notes (Look viewer count ∷ es) = learns_from v posts notes es
learns_from v posts notes (Tell ∷ es) = learns_from v posts (notes ++ posts ∷ []) es
learns_from v posts notes (Learn viewer note ∷ es) =
    cond (viewer == v)
    (slice_index_or notes note 0 ∷ learns_from v posts notes es)
    (learns_from v posts notes es)

-- the counts that this viewer learns by these events, the first of all
abbrev pub learns_of : {M : Type 0} → ℕ → List (Event M) → List ℕ
learns_of v es = learns_from v 0 [] es
