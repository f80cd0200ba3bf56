-- The replies of `watch` to queries, and which journeys are watched from then on.
use Rattle.std.specs.Prelude.{◌≡◌, ℕ, List, [], ◌∷◌, ◌++◌, Bool, false, nat_lt, if◌then◌else◌, length, Result, Ok, Err}
use Rattle.delay_report.specs.Replies.{text_of_reply}
use Rattle.delay_report.specs.Watches.{text_of_watched}
use Rattle.delay_report.specs.declared.replies.Reply.{Reply}
use Rattle.delay_report.specs.declared.replies.Reply.TheVariants.{Bad, Journey}
use Rattle.delay_model.specs.declared.network.Network.{Network}
use Rattle.delay_model.specs.declared.state.State.{State}
use Rattle.information_service.specs.Output.{IsReplyToQuery}
use Rattle.information_service.specs.ServiceState.{ServiceState}
use Rattle.journey_watch.specs.Watching.{WatchState, first_watched}
use Rattle.message_reader.specs.declared.bad_line.BadLine.{BadLine}
use Rattle.message_reader.specs.declared.resolve_queries.AskedQuery.{AskedQuery}
use Rattle.mt_base.specs.declared.journeys.Query.{Query}
use Rattle.watch_answers.specs.declared.queries.NumberedQuery.{NumberedQuery}

-- fewer journeys are watched than can be
abbrev pub has_room : WatchState → Bool
has_room kept = nat_lt (length kept.watched) kept.room

-- the journey that a reply shows is watched from then on: there is one, and there is room
abbrev pub is_watched : WatchState → Reply → Bool
is_watched kept (Journey line after day arrives rides) = has_room kept
is_watched kept _ = false

-- what is watched then: the journey too, under the number of its line
abbrev pub with_shown : WatchState → ℕ → Query → Reply → WatchState
with_shown kept number q (Journey line after day arrives rides) =
    if has_room kept
    then record {
      room = kept.room;
      watched = kept.watched ++ first_watched number day q rides ∷ [];
    }
    else kept
with_shown kept number q _ = kept

-- this answers a query by number in a state, as `times` does
abbrev pub is_reply_to : Network → State → ℕ → NumberedQuery → Reply → Type 0
is_reply_to nw st count n reply = IsReplyToQuery nw st count n.line n.asked.day n.asked.query reply

-- this is the text of the reply to a query by number: the reply that `times` gives, and whether its
-- journey is watched from then on
pub record IsWatchedReply (t : ServiceState) (kept : WatchState) (number : ℕ) (asked : AskedQuery)
    (text : List ℕ) (kept_now : WatchState) : Type 0 where
  pub reply : Reply
  pub is_reply : IsReplyToQuery t.network t.state t.count number asked.day asked.query reply
  pub text_is : text ≡ text_of_watched t.names (is_watched kept reply) reply
  pub kept_is : kept_now ≡ with_shown kept number asked.query reply

-- this is the text of the reply to a query by number, or to one whose names make its line bad
abbrev pub IsQueryText : ServiceState → WatchState → ℕ → Result AskedQuery BadLine → List ℕ
    → WatchState → Type 0
IsQueryText t kept number (Ok asked) text kept_now =
    IsWatchedReply t kept number asked text kept_now
IsQueryText t kept number (Err bad) text kept_now =
    (text ≡ text_of_reply t.names (Bad number bad)) × (kept_now ≡ kept)
