-- The replies of `watch` to messages, and what is told of watched journeys behind them.
use Rattle.std.specs.Prelude.{◌≡◌, ℕ, List, [], ◌∷◌, ◌++◌, None, Some, map}
use Rattle.std.specs.declared.option.Option.{Option}
use Rattle.delay_model.specs.declared.messages.Message.{Message}
use Rattle.delay_model.specs.declared.network.Network.{Network}
use Rattle.delay_model.specs.declared.state.State.{State}
use Rattle.delay_model.specs.After.{accepted_message}
use Rattle.delay_model.specs.Effect.{effect}
use Rattle.delay_report.specs.Replies.{text_of_reply}
use Rattle.delay_report.specs.Watches.{text_of_alert}
use Rattle.information_service.specs.Output.{reply_to_message}
use Rattle.information_service.specs.ServiceState.{ServiceState}
use Rattle.journey_watch.specs.Runs.{changes_of}
use Rattle.journey_watch.specs.Watching.{AreKept, WatchState, alerts_of, renewed}
use Rattle.message_reader.specs.declared.wire.Wire.{Wire}
use Rattle.message_reader.specs.Resolved.{resolved}
use Rattle.standing_laws.specs.declared.standings.Alert.{Alert}
use Rattle.schedule_build.specs.Directory.{Names}

-- the lines of these alerts behind the reply to the message in a line, one after the other
abbrev pub texts_of_alerts : Names → ℕ → List Alert → List ℕ
texts_of_alerts names line [] = []
texts_of_alerts names line (a ∷ others) =
    text_of_alert names line a ++ texts_of_alerts names line others

-- each watched journey has in this state the standing that is kept of it
abbrev pub are_kept : Network → State → WatchState → Type 0
are_kept nw st kept = AreKept nw st kept.watched

-- what is watched, with the standings of a state
abbrev pub kept_in : Network → State → WatchState → WatchState
kept_in nw st kept = record { room = kept.room; watched = map (renewed nw st) kept.watched }

-- in a state these alerts are told, and the standings that are kept then are those of the state
abbrev pub are_told : Network → State → WatchState → List Alert → WatchState → Type 0
are_told nw st old alerts new = (alerts ≡ alerts_of nw st old.watched) × (new ≡ kept_in nw st old)

-- what is told behind a message, if it is accepted: each watched journey whose standing in the
-- state after it is another than in the state before it, with the new one
abbrev pub alerts_behind : ServiceState → WatchState → Option Message → List Alert
alerts_behind t kept None = []
alerts_behind t kept (Some m) = changes_of t.network t.state (effect t.state m) kept.watched

-- and what is watched then
abbrev pub kept_behind : ServiceState → WatchState → Option Message → WatchState
kept_behind t kept None = kept
kept_behind t kept (Some m) = kept_in t.network (effect t.state m) kept

-- this is the text of the reply to a message, with what is told behind it, by the names that are
-- known then
pub record IsMessageText (t : ServiceState) (kept : WatchState) (number : ℕ) (w : Wire)
    (text : List ℕ) (now : ServiceState) (kept_now : WatchState) : Type 0 where
  pub text_is : text ≡ text_of_reply now.names
      (reply_to_message t.network t.names t.state t.count number w (resolved t.names w))
      ++ texts_of_alerts now.names number
      (alerts_behind t kept (accepted_message t.network t.state (resolved t.names w)))
  pub kept_is : kept_now
      ≡ kept_behind t kept (accepted_message t.network t.state (resolved t.names w))
