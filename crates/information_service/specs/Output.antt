-- What is written for the lines of an input: a reply to each line, and then the table of all times.
use Rattle.std.specs.Prelude.{◌≡◌, ◌⊎◌, ℕ, ◌+◌, List, [], ◌∷◌, ◌++◌, length, Some, None, Result, Ok, Err}
use Rattle.std.specs.Option.{option_map_or}
use Rattle.std.specs.declared.option.Option.{Option}
use Rattle.mt_base.specs.declared.journeys.PlanRide.{PlanRide}
use Rattle.mt_base.specs.declared.journeys.Query.{Query}
use Rattle.conn_scan.specs.declared.earliest_arrival.Found.{Found}
use Rattle.conn_scan.specs.declared.earliest_arrival.Found.TheVariants.{Arrives, NoWay}
use Rattle.delay_model.specs.declared.network.Network.{Network}
use Rattle.delay_model.specs.declared.messages.Message.{Message}
use Rattle.delay_model.specs.declared.messages.Refusal.{Refusal}
use Rattle.delay_model.specs.declared.messages.Refusal.TheVariants.{AgainstRank}
use Rattle.delay_model.specs.declared.state.State.{State}
use Rattle.delay_model.specs.After.{after_messages}
use Rattle.delay_model.specs.Journeys.{IsEarliest, HasNoJourney}
use Rattle.delay_model.specs.Refusals.{refusal}
use Rattle.delay_model.specs.Touched.{changed_count}
use Rattle.delay_report.specs.declared.replies.Reply.{Reply}
use Rattle.delay_report.specs.declared.replies.Reply.TheVariants.{Accepted, Refused, RefusedExtra, Bad, Flush as Flushed, Journey, NoJourney}
use Rattle.delay_report.specs.Replies.{text_of_reply}
use Rattle.delay_report.specs.Table.{table}
use Rattle.message_reader.specs.declared.bad_line.BadLine.{BadLine}
use Rattle.message_reader.specs.declared.resolve_queries.AskedQuery.{AskedQuery}
use Rattle.message_reader.specs.declared.wire.Wire.{Wire}
use Rattle.message_reader.specs.declared.wire.Wire.TheVariants.{Extra}
use Rattle.message_reader.specs.declared.wire.Line.{Line as Spoken}
use Rattle.message_reader.specs.declared.wire.Line.TheVariants.{Message as Says, Query as Asks, Flush}
use Rattle.message_reader.specs.Resolved.{resolved}
use Rattle.message_reader.specs.ResolvedQueries.{query_resolved}
use Rattle.mt_io.specs.Lines.{Line}
use Rattle.schedule_build.specs.Directory.{Names, day_named}
use Rattle.information_service.specs.Lines.{said_by, accepted_of, names_after}
use Rattle.information_service.specs.ServiceState.{ServiceState, service_after}

-- the reply to a refused message. The train of a refused extra has no number: where an edge of it
-- runs against the order of keys, the two events are told by its trip and its service day, which is
-- loaded, since its names were read before
abbrev pub reply_to_refused : Names → ℕ → Wire → Refusal → Reply
reply_to_refused names line (Extra trip date route calls) (AgainstRank from to) =
    option_map_or (λ day. RefusedExtra line trip day from to) (day_named names date)
    (Refused line (AgainstRank from to))
reply_to_refused names line w r = Refused line r

-- the reply where the message has this answer. It is the next after so many accepted messages
abbrev pub reply_by_refusal : Network → Names → State → ℕ → ℕ → Wire → Message → Option Refusal
    → Reply
reply_by_refusal nw names st count line w m None = Accepted line (count + 1) (changed_count nw st m)
reply_by_refusal nw names st count line w m (Some r) = reply_to_refused names line w r

-- the reply to a message, or to names that decide its refusal, in a state after so many accepted
-- messages
abbrev pub reply_to_message : Network → Names → State → ℕ → ℕ → Wire → Result Message Refusal
    → Reply
reply_to_message nw names st count line w (Err r) = Refused line r
reply_to_message nw names st count line w (Ok m) =
    reply_by_refusal nw names st count line w m (refusal nw st m)

-- the reply that shows an answer to a query of a service day, with these rides
abbrev pub reply_to_found : ℕ → ℕ → ℕ → Found → List PlanRide → Reply
reply_to_found line count day (Arrives at) rides = Journey line count day at rides
reply_to_found line count day NoWay rides = NoJourney line count

-- this is a reply to a query in a state after so many accepted messages: it shows a journey, and no
-- other arrives earlier; or there is no journey, and the reply says so
abbrev pub IsReplyToQuery : Network → State → ℕ → ℕ → ℕ → Query → Reply → Type 0
IsReplyToQuery nw st count line day q reply =
    ((arrives : ℕ) × (rides : List PlanRide) × (reply ≡ Journey line count day arrives rides)
    × IsEarliest nw st q rides arrives)
    ⊎ ((reply ≡ NoJourney line count) × HasNoJourney nw st q)

-- this is a reply to a query by number, or to one whose names make its line bad
abbrev pub IsReplyToResolved : Network → State → ℕ → ℕ → Result AskedQuery BadLine → Reply → Type 0
IsReplyToResolved nw st count line (Ok asked) reply =
    IsReplyToQuery nw st count line asked.day asked.query reply
IsReplyToResolved nw st count line (Err b) reply = reply ≡ Bad line b

-- this is a reply to what a line says. That to a flush has the number of messages accepted so far
abbrev pub IsReply : Network → Names → State → ℕ → ℕ → Result Spoken BadLine → Reply → Type 0
IsReply nw names st count line (Err b) reply = reply ≡ Bad line b
IsReply nw names st count line (Ok Flush) reply = reply ≡ Flushed line count
IsReply nw names st count line (Ok (Says w)) reply =
    reply ≡ reply_to_message nw names st count line w (resolved names w)
IsReply nw names st count line (Ok (Asks q)) reply =
    IsReplyToResolved nw st count line (query_resolved names q) reply

-- this is a reply to the line of this number, in this state of the service
abbrev pub IsReplyTo : ServiceState → ℕ → Line → Reply → Type 0
IsReplyTo t number x reply =
    IsReply t.network t.names t.state t.count number (said_by x) reply

-- these bytes are the text of the reply to the line that stands behind these lines: in the state
-- after their accepted messages, by the names that are known after them, with the number of the
-- line
pub record IsTextAfter (nw : Network) (names : Names) (st : State) (before : List Line) (x : Line)
    (bytes : List ℕ) : Type 0 where
  pub reply : Reply
  pub is_reply : IsReplyTo (service_after nw names st before) (length before + 1) x reply
  pub text : bytes ≡ text_of_reply (names_after nw names st before) reply

-- these bytes are reply lines, one to each of these lines, which stand behind those before
abbrev pub AreReplies : Network → Names → State → List Line → List Line → List ℕ → Type 0
AreReplies nw names st before [] bytes = bytes ≡ []
AreReplies nw names st before (x ∷ xs) bytes =
    (text : List ℕ) × (others : List ℕ) × IsTextAfter nw names st before x text
    × AreReplies nw names st (before ++ x ∷ []) xs others × (bytes ≡ text ++ others)

-- these bytes are an output of these lines: a reply line to each, and then the table of the state
-- after the accepted messages, by the names that are known then. But for the journeys that are
-- shown there is one such list of bytes
pub record IsOutput (nw : Network) (names : Names) (st : State) (lines : List Line)
    (bytes : List ℕ) : Type 0 where
  pub shown : List ℕ
  pub replies : AreReplies nw names st [] lines shown
  pub all : bytes ≡ shown ++ table nw (names_after nw names st lines)
      (after_messages st (accepted_of nw names st lines))
