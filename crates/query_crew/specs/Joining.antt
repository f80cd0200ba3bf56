-- The replies to the lines of a window, from what the publisher and the workers have for each line.
use Rattle.std.specs.Prelude.{◌≡◌, ◌<◌, ℕ, ◌%◌, List, length, get_or, slice_get, sum, Some, None}
use Rattle.std.specs.declared.option.Option.{Option}
use Rattle.delay_report.specs.declared.replies.Reply.{Reply}
use Rattle.query_crew.specs.declared.window_line.WindowLine.{WindowLine}
use Rattle.query_crew.specs.declared.window_line.WindowLine.TheVariants as shown

-- what the worker of the client has for the line in this place, if it is a query. `answers` are
-- those of each worker, by its number
abbrev pub answer_for : (ℕ → List (Option Reply)) → ℕ → WindowLine → ℕ → Option Reply
answer_for answers workers (shown.Query q) place =
    get_or (answers (sum q.client % workers)) place None
answer_for answers workers (shown.Message w) place = None
answer_for answers workers shown.Flush place = None
answer_for answers workers (shown.Bad b) place = None

-- the first of the two that is there
abbrev pub chosen : Option Reply → Option Reply → Option Reply
chosen (Some r) answer = Some r
chosen None answer = answer

-- the reply to the line in this place: the publisher's, or else the answer of a worker
abbrev pub reply_for : List (Option Reply) → (ℕ → List (Option Reply)) → ℕ → WindowLine → ℕ
    → Option Reply
reply_for own answers workers line place =
    chosen (get_or own place None) (answer_for answers workers line place)

-- the entries behind this place are the same
pub record IsSameBehind (place : ℕ) (xs ys : List (Option Reply)) : Type 0 where
  pub count : length ys ≡ length xs
  pub behind : (p : ℕ) → place < p → get_or ys p None ≡ get_or xs p None

-- the replies to the first of these lines
pub record AreJoined (lines : List WindowLine) (own : List (Option Reply))
    (answers : ℕ → List (Option Reply)) (workers : ℕ) (replies : List Reply) : Type 0 where
  pub each : (place : ℕ) (line : WindowLine) (r : Reply) → slice_get lines place ≡ Some line
      → slice_get replies place ≡ Some r → Some r ≡ reply_for own answers workers line place
