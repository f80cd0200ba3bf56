-- What `watch` writes is the same over networks that are alike.
use Rattle.std.proofs.Common.{◌≡◌, ◌∙◌, ap, refl, sym, arith, ℕ, ◌+◌, cond, List, [], ◌∷◌, map, Option, Some, None, Result, Ok, Err}
use Rattle.std.specs.Option.{option_map_or}
use Rattle.delay_model.specs.After.{accepted_message}
use Rattle.delay_model.specs.Effect.{effect}
use Rattle.delay_model.specs.declared.messages.Message.{Message}
use Rattle.delay_model.specs.declared.network.Network.{Network}
use Rattle.delay_model.specs.declared.state.State.{State}
use Rattle.information_service.proofs.Networks.{answer-same, query-same, reply-to-message-same, times-same}
use Rattle.information_service.proofs.TimesAlike.{line-keeps, line-over}
use Rattle.information_service.specs.Lines.{said_by}
use Rattle.information_service.specs.Networks.{IsSame, IsWrittenAlike, over}
use Rattle.information_service.specs.ServiceState.{ServiceState}
use Rattle.journey_laws.specs.Checked.{is_from_origin, is_in_time}
use Rattle.journey_watch.specs.declared.watched.Watched.{Watched}
use Rattle.journey_watch.specs.Runs.{changes_of}
use Rattle.journey_watch.specs.Watching.{WatchState, renewed, standing_in}
use Rattle.message_reader.specs.ResolvedQueries.{query_resolved}
use Rattle.message_reader.specs.Resolved.{resolved}
use Rattle.message_reader.specs.declared.bad_line.BadLine.{BadLine}
use Rattle.message_reader.specs.declared.resolve_queries.AskedQuery.{AskedQuery}
use Rattle.message_reader.specs.declared.wire.Line.{Line as Spoken}
use Rattle.message_reader.specs.declared.wire.Line.TheVariants.{Message as Says, Query as Asks, Flush}
use Rattle.message_reader.specs.declared.wire.Wire.{Wire}
use Rattle.mt_base.specs.declared.certificates.CertRide.{CertRide}
use Rattle.mt_base.specs.declared.journeys.PlanRide.{PlanRide}
use Rattle.mt_base.specs.declared.journeys.Query.{Query}
use Rattle.standing_laws.specs.declared.standings.Standing.TheVariants.{Broken}
use Rattle.standing_laws.specs.Standings.{ride_now, standing, standing_after}
use Rattle.watch_answers.specs.WatchedLines.{IsWatchedText, watched_output}
use Rattle.watch_answers.specs.WatchedMessages.{IsMessageText, alerts_behind, kept_behind, kept_in}
use Rattle.watch_answers.specs.WatchedQueries.{IsQueryText}

module _ (a b : Network) (h : IsSame a b) (st : State) where
  -- networks alike have the same rides
  ride-same : (c : CertRide) → ride_now b st c ≡ ride_now a st c
  ride-same c = grind (arith, times-same a b h st)

  in-time-same : (p t q s : ℕ) → is_in_time b p t q s ≡ is_in_time a p t q s
  in-time-same p t q s = grind (arith, h.change)

  origin-same : (q : Query) (p t : ℕ) → is_from_origin b q p t ≡ is_from_origin a q p t
  origin-same q p t = grind (arith, h.change, h.station)

  -- and the same standings
  after-same : (rides : List CertRide) (p t n : ℕ) → standing_after b st p t n rides ≡ standing_after a st p t n rides
  after-same [] p t n = refl
  after-same (c ∷ cs) p t n = λ i.
      option_map_or (λ (r : PlanRide). cond (in-time-same p t r.board_stop r.board_time i) (after-same cs r.alight_stop r.alight_time (n + 1) i) (Broken n)) (ride-same c i) (Broken n)

  standing-same : (q : Query) (rides : List CertRide) → standing b st q rides ≡ standing a st q rides
  standing-same q [] = refl
  standing-same q (c ∷ cs) = λ i.
      option_map_or (λ (r : PlanRide). cond (origin-same q r.board_stop r.board_time i) (after-same cs r.alight_stop r.alight_time 1 i) (Broken 0)) (ride-same c i) (Broken 0)

  in-same : (w : Watched) → standing_in b st w ≡ standing_in a st w
  in-same w = standing-same w.query w.rides

  renewed-same : (ws : List Watched) → map (renewed b st) ws ≡ map (renewed a st) ws
  renewed-same [] = refl
  renewed-same (w ∷ ws) = λ i. record w { standing = in-same w i } ∷ renewed-same ws i

  pub kept-same : (kept : WatchState) → kept_in b st kept ≡ kept_in a st kept
  kept-same kept = λ i. record { room = kept.room; watched = renewed-same kept.watched i }

-- so the same is told
told-same : (a b : Network) → IsSame a b → (old new : State) (ws : List Watched) → changes_of b old new ws ≡ changes_of a old new ws
told-same a b h old new [] = refl
told-same a b h old new (w ∷ ws) = grind (arith, in-same a b h old w, in-same a b h new w, told-same a b h old new ws)

module _ (nw : Network) (t : ServiceState) (same : IsSame nw t.network) (kept : WatchState) where
  alerts-same : (m : Option Message) → alerts_behind (over nw t) kept m ≡ alerts_behind t kept m
  alerts-same None = refl
  alerts-same (Some m) = sym (told-same nw t.network same t.state (effect t.state m) kept.watched)

  behind-same : (m : Option Message) → kept_behind (over nw t) kept m ≡ kept_behind t kept m
  behind-same None = refl
  behind-same (Some m) = sym (kept-same nw t.network same (effect t.state m) kept)

  query-text-same : (number : ℕ) (asked : Result AskedQuery BadLine) (text : List ℕ) (now : WatchState)
      → IsQueryText t kept number asked text now → IsQueryText (over nw t) kept number asked text now
  query-text-same number (Ok asked) text now is = record {
    reply = is.reply;
    is_reply = query-same nw t.network same t.state t.count number asked.day asked.query is.reply is.is_reply;
    text_is = is.text_is;
    kept_is = is.kept_is;
  }
  query-text-same number (Err bad) text now is = is

  message-text-same : (number : ℕ) (w : Wire) (text : List ℕ) (now : ServiceState) (kept_now : WatchState) → IsMessageText t kept number w text now kept_now
      → IsMessageText (over nw t) kept number w text (over nw now) kept_now
  message-text-same number w text now kept_now is =
      let read = resolved t.names w in
      let accepts : accepted_message nw t.state read ≡ accepted_message t.network t.state read = sym (answer-same nw t.network same t.state read) in
      let replies = reply-to-message-same nw t.network same t.names t.state t.count number w read in
      record {
        text_is = rw (accepts, alerts-same (accepted_message t.network t.state read), ← replies) is.text_is;
        kept_is = rw (accepts, behind-same (accepted_message t.network t.state read)) is.kept_is;
      }

  watched-text-same : (number : ℕ) (said : Result Spoken BadLine) (text : List ℕ) (now : ServiceState) (kept_now : WatchState)
      → IsWatchedText t kept number said text now kept_now → IsWatchedText (over nw t) kept number said text (over nw now) kept_now
  watched-text-same number (Ok (Asks q)) text now kept_now is = query-text-same number (query_resolved t.names q) text kept_now is
  watched-text-same number (Ok (Says w)) text now kept_now is = message-text-same number w text now kept_now is
  watched-text-same number (Ok Flush) text now kept_now is = is
  watched-text-same number (Err bad) text now kept_now is = is

pub watched-alike : IsWrittenAlike watched_output
watched-alike = record {
  begins = λ nw t kept same. refl;
  answers = λ nw t kept number x text now kept_now same one. record {
    reply = watched-text-same nw t same kept number (said_by x) text now kept_now one.reply;
    leaves = ap (over nw) one.leaves ∙ sym (line-over nw t x same);
  };
  ends = λ nw t kept same. refl;
  keeps = λ t kept number x text now kept_now one. ap (λ (s : ServiceState). s.network) one.leaves ∙ line-keeps t x;
}
