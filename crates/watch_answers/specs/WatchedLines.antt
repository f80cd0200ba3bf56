-- What `watch` writes to each line.
use Rattle.std.specs.Prelude.{◌≡◌, ℕ, List, [], Result, Ok, Err}
use Rattle.delay_report.specs.Replies.{text_of_reply}
use Rattle.delay_report.specs.declared.replies.Reply.TheVariants.{Bad, Flush as Flushed}
use Rattle.information_service.specs.Answering.{LineOutput}
use Rattle.information_service.specs.Lines.{said_by}
use Rattle.information_service.specs.ServiceState.{ServiceState, after_line}
use Rattle.journey_watch.specs.Watching.{WatchState}
use Rattle.message_reader.specs.ResolvedQueries.{query_resolved}
use Rattle.message_reader.specs.declared.bad_line.BadLine.{BadLine}
use Rattle.message_reader.specs.declared.wire.Line.{Line as Spoken}
use Rattle.message_reader.specs.declared.wire.Line.TheVariants.{Message as Says, Query as Asks, Flush}
use Rattle.mt_io.specs.Lines.{Line}
use Rattle.watch_answers.specs.WatchedMessages.{IsMessageText, are_kept}
use Rattle.watch_answers.specs.WatchedQueries.{IsQueryText}

-- this is what is written to what a line says: to a query its reply, and whether its journey is
-- watched from then on; to a message its reply, and behind it what is told of watched journeys; and
-- to anything else what `times` replies. Afterwards the service is the second, and this is watched
abbrev pub IsWatchedText : ServiceState → WatchState → ℕ → Result Spoken BadLine → List ℕ
    → ServiceState → WatchState → Type 0
IsWatchedText t kept number (Ok (Asks q)) text now kept_now =
    IsQueryText t kept number (query_resolved t.names q) text kept_now
IsWatchedText t kept number (Ok (Says w)) text now kept_now =
    IsMessageText t kept number w text now kept_now
IsWatchedText t kept number (Ok Flush) text now kept_now =
    (text ≡ text_of_reply t.names (Flushed number t.count)) × (kept_now ≡ kept)
IsWatchedText t kept number (Err bad) text now kept_now =
    (text ≡ text_of_reply t.names (Bad number bad)) × (kept_now ≡ kept)

-- the line of this number is answered so, and leaves the service as it leaves that of `times`
pub record IsWatchedLine (t : ServiceState) (kept : WatchState) (number : ℕ) (x : Line)
    (text : List ℕ) (now : ServiceState) (kept_now : WatchState) : Type 0 where
  pub reply : IsWatchedText t kept number (said_by x) text now kept_now
  pub leaves : now ≡ after_line t x

-- what is written to each line, and nothing else. Between the lines each watched journey has in the
-- state of the service the standing that is kept of it, so what is told behind a message are the
-- standings that it changes
abbrev pub watched_output : LineOutput WatchState
watched_output = record {
  fits = λ t kept. are_kept t.network t.state kept;
  begins = λ t kept. [];
  answers = IsWatchedLine;
  ends = λ t kept. [];
}
