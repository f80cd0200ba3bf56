-- What each accepted message leaves, and so the times of the events that it does not touch.
use Rattle.state_laws.proofs.Words.{◌≡◌, true, None, ◌≢◌, All, Contains, node_of, effect, events, IsWellFormed, refusal, event_time, named, touched, IsValid, Message, Report, Forecast, Correct, Withdraw, Some}
use Rattle.state_laws.proofs.Words.{Cancel, Reroute, Extra, Keep, Drop, Rule, Network, Event, State}
use Rattle.state_laws.proofs.Stays.{stays-valid}
use Rattle.state_laws.proofs.Untouched.{IsLeft, untouched-by, time-left}
use Rattle.state_laws.proofs.Settings.{forecast-left}
use Rattle.state_laws.proofs.Reports.{report-left, correct-left}
use Rattle.state_laws.proofs.Chosen.{keep-left, drop-left, rule-left}
use Rattle.state_laws.proofs.Cancelled.{cancel-left}
use Rattle.state_laws.proofs.Added.{extra-left}
use Rattle.state_laws.proofs.Swapped.{reroute-left}

-- an accepted message leaves each live event that it does not name
pub message-left : (nw : Network) (st : State) (m : Message) → IsValid nw st → IsWellFormed m → refusal nw st m ≡ None → (w : Event) → Contains (events (effect st m)) w → w.live ≡ true → All (λ k. k ≢ node_of w.key) (named st m) → IsLeft nw st (effect st m) w
unfolding effect
message-left nw st (Report n t) valid well h w hw live free = report-left nw st n t valid well h w hw live free
message-left nw st (Forecast n t) valid well h w hw live free = forecast-left nw st n (Some t) valid well w hw live free
message-left nw st (Correct n o) valid well h w hw live free = correct-left nw st n o valid well h w hw live free
message-left nw st (Withdraw n) valid well h w hw live free = forecast-left nw st n None valid tt w hw live free
message-left nw st (Cancel n from to) valid well h w hw live free = cancel-left nw st n from to valid h w hw live
message-left nw st (Reroute n from to via) valid well h w hw live free = reroute-left nw st n from to via valid well h w hw free
message-left nw st (Extra n day route cs) valid well h w hw live free = extra-left nw st n day route cs valid well.1 h w hw free
message-left nw st (Keep feeder train) valid well h w hw live free = keep-left nw st feeder train valid well h w hw free
message-left nw st (Drop feeder train) valid well h w hw live free = drop-left nw st feeder train valid well h w hw free
message-left nw st (Rule feeder train) valid well h w hw live free = rule-left nw st feeder train valid w hw free

-- so one that it does not touch was there, and keeps its time
pub untouched-kept : (nw : Network) (st : State) (m : Message) → IsValid nw st → IsWellFormed m → refusal nw st m ≡ None → (w : Event) → Contains (events (effect st m)) w → w.live ≡ true → (Contains (touched nw st m) w → ⊥) → Contains (events st) w × (event_time nw (effect st m) w.key ≡ event_time nw st w.key)
untouched-kept nw st m valid well h w hw live free =
    let after = stays-valid nw st m valid well h in
    let u = untouched-by nw st m w hw live free in
    let left = message-left nw st m valid well h w hw live u.unnamed in
    (left.there, time-left nw st (effect st m) w valid after hw left u.unfed)
