-- What `serve` writes for the lines of an input: a reply to each line, window after window.
use Rattle.std.specs.Prelude.{◌≡◌, ◌≤◌, ℕ, ◌+◌, List, [], ◌∷◌, ◌++◌, length, take, flat_map, slice_get, Some, None, Result, Ok}
use Rattle.std.specs.Option.{option_map_or}
use Rattle.std.specs.declared.option.Option.{Option}
use Rattle.delay_model.specs.declared.network.Network.{Network}
use Rattle.delay_model.specs.declared.state.State.{State}
use Rattle.delay_model.specs.After.{after_messages}
use Rattle.delay_model.specs.Windows.{Answer, CountsDoNotFall, lines_of}
use Rattle.delay_report.specs.declared.replies.Reply.{Reply}
use Rattle.delay_report.specs.declared.replies.Reply.TheVariants.{Journey, NoJourney}
use Rattle.delay_report.specs.Replies.{text_of_reply}
use Rattle.information_service.specs.Lines.{said_by, accepted_of, names_after}
use Rattle.information_service.specs.Output.{IsReply, IsReplyToResolved}
use Rattle.information_service.specs.ServiceState.{service_after}
use Rattle.message_reader.specs.declared.bad_line.BadLine.{BadLine}
use Rattle.message_reader.specs.declared.wire.Line.{Line as Spoken}
use Rattle.message_reader.specs.declared.wire.Line.TheVariants.{Query as Asks}
use Rattle.message_reader.specs.declared.wire.WireQuery.{WireQuery}
use Rattle.message_reader.specs.ResolvedQueries.{query_resolved}
use Rattle.mt_io.specs.Lines.{Line}
use Rattle.schedule_build.specs.Directory.{Names}
use Rattle.query_crew.specs.Windows.{windows_of}

-- ---- a reply to a line

-- this is a reply to a query of a window that stands behind the lines `before`. The query is
-- answered in the state after the first `count` of the messages that are accepted up to the end of
-- the window, and the reply shows this `count`. All messages that were accepted before the window
-- are among them, and of the window's own the first so many or none, also where they stand behind
-- the query. No message adds or changes a stop or a service day, so the names of the feed tell what
-- is asked
pub record IsQueryReply (nw : Network) (names : Names) (st : State) (before window : List Line)
    (number : ℕ) (q : WireQuery) (reply : Reply) : Type 0 where
  pub count : ℕ
  pub lower : length (accepted_of nw names st before) ≤ count
  pub upper : count ≤ length (accepted_of nw names st (before ++ window))
  pub answers : IsReplyToResolved nw
      (after_messages st (take count (accepted_of nw names st (before ++ window)))) count number
      (query_resolved names q) reply

-- this is a reply to what a line says that has so many lines of its window before it. Each line
-- other than a query is answered in the state after all lines before it, those of its own window
-- too. Lines are numbered from 1 along the whole input
abbrev pub IsReplyAt : Network → Names → State → List Line → List Line → ℕ
    → Result Spoken BadLine → Reply → Type 0
IsReplyAt nw names st before window place (Ok (Asks q)) reply =
    IsQueryReply nw names st before window (length before + (place + 1)) q reply
IsReplyAt nw names st before window place said reply =
    let t = service_after nw names st (before ++ take place window) in
    IsReply t.network t.names t.state t.count (length before + (place + 1)) said reply

-- ---- which counts are shown to whom

-- the count that a reply to a query shows
abbrev pub shown_count : Reply → Option ℕ
shown_count (Journey line after day arrives rides) = Some after
shown_count (NoJourney line after) = Some after
shown_count reply = None

-- the count that is shown to the client whose query the line is, if it is a query and its reply
-- shows one
abbrev pub shown_to : Result Spoken BadLine → Reply → List (Answer (List ℕ))
shown_to (Ok (Asks q)) reply =
    option_map_or (λ n. record { client = q.client; count = n } ∷ []) (shown_count reply) []
shown_to said reply = []

-- the counts that are shown to clients by the replies to these lines, in their order. The replies
-- are those to the lines in the same places
abbrev pub shown_counts : List Line → List Reply → List (Answer (List ℕ))
shown_counts [] replies = []
shown_counts (x ∷ xs) [] = []
shown_counts (x ∷ xs) (reply ∷ replies) = shown_to (said_by x) reply ++ shown_counts xs replies

-- ---- the replies of windows

-- these are the replies of a window that stands behind the lines `before`: one to each of its
-- lines, in their order, and the counts that are shown to one client do not fall
pub record AreWindowReplies (nw : Network) (names : Names) (st : State) (before window : List Line)
    (replies : List Reply) : Type 0 where
  pub one_each : length replies ≡ length window
  pub are : (place : ℕ) (x : Line) (reply : Reply) → slice_get window place ≡ Some x
      → slice_get replies place ≡ Some reply
      → IsReplyAt nw names st before window place (said_by x) reply
  pub counts : CountsDoNotFall (shown_counts window replies)

-- these are the replies of these windows, of each window its own, where the first window stands
-- behind the lines `before`
abbrev pub AreRepliesFrom : Network → Names → State → List Line → List (List Line)
    → List (List Reply) → Type 0
AreRepliesFrom nw names st before [] [] = Unit {0}
AreRepliesFrom nw names st before [] (r ∷ rs) = ⊥
AreRepliesFrom nw names st before (w ∷ ws) [] = ⊥
AreRepliesFrom nw names st before (w ∷ ws) (r ∷ rs) =
    AreWindowReplies nw names st before w r × AreRepliesFrom nw names st (before ++ w) ws rs

-- the replies of windows, joined
abbrev pub replies_of : List (List Reply) → List Reply
replies_of rs = flat_map (λ r. r) rs

-- ---- what is written

-- the texts of replies, one behind the other
abbrev pub text_of_replies : Names → List Reply → List ℕ
text_of_replies names replies = flat_map (text_of_reply names) replies

-- the texts of the replies of windows, the first of which stands behind the lines `before`. Those
-- of a window are written by the names that are known at its end
abbrev pub text_from : Network → Names → State → List Line → List (List Line) → List (List Reply)
    → List ℕ
text_from nw names st before [] rs = []
text_from nw names st before (w ∷ ws) [] = []
text_from nw names st before (w ∷ ws) (r ∷ rs) =
    text_of_replies (names_after nw names st (before ++ w)) r
    ++ text_from nw names st (before ++ w) ws rs

-- these bytes are what is written for these windows of an input: the texts of the replies of each,
-- one window after the other. Over all lines the counts that are shown to one client do not fall
pub record AreServed (nw : Network) (names : Names) (st : State) (ws : List (List Line))
    (bytes : List ℕ) : Type 0 where
  pub replies : List (List Reply)
  pub are : AreRepliesFrom nw names st [] ws replies
  pub counts : CountsDoNotFall (shown_counts (lines_of ws) (replies_of replies))
  pub text : bytes ≡ text_from nw names st [] ws replies

-- these bytes are what `serve` writes for these lines, which are all of the input, over a timetable
-- that begins in the state `st` with these names
abbrev pub IsServed : Network → Names → State → List Line → List ℕ → Type 0
IsServed nw names st lines bytes = AreServed nw names st (windows_of lines) bytes
