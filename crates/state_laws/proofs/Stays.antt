-- A valid state stays valid, whichever message is accepted.
use Rattle.state_laws.proofs.Words.{◌≡◌, None, Some, effect, IsWellFormed, refusal, IsValid, Message, Report, Forecast, Correct, Withdraw, Cancel, Reroute, Extra, Keep, Drop, Rule, Network, State}
use Rattle.state_laws.proofs.Values.{report-valid, correct-valid, forecast-valid}
use Rattle.state_laws.proofs.Choices.{keep-valid, drop-valid, free-valid}
use Rattle.state_laws.proofs.Cancels.{cancel-valid}
use Rattle.state_laws.proofs.Extras.{extra-valid}
use Rattle.state_laws.proofs.Reroutes.{reroute-valid}

-- the state after an accepted message that is well formed is valid
pub stays-valid : (nw : Network) (st : State) (m : Message) → IsValid nw st → IsWellFormed m → refusal nw st m ≡ None → IsValid nw (effect st m)
unfolding effect
stays-valid nw st (Report n t) valid well h = report-valid nw st n t valid well h
stays-valid nw st (Forecast n t) valid well h = forecast-valid nw st n (Some t) valid well
stays-valid nw st (Correct n o) valid well h = correct-valid nw st n o valid well h
stays-valid nw st (Withdraw n) valid well h = forecast-valid nw st n None valid tt
stays-valid nw st (Cancel n from to) valid well h = cancel-valid nw st n from to valid h
stays-valid nw st (Reroute n from to via) valid well h = reroute-valid nw st n from to via valid well h
stays-valid nw st (Extra n day route calls) valid well h = extra-valid nw st n day route calls valid well.1 h
stays-valid nw st (Keep feeder train) valid well h = keep-valid nw st feeder train valid well h
stays-valid nw st (Drop feeder train) valid well h = drop-valid nw st feeder train valid well h
stays-valid nw st (Rule feeder train) valid well h = free-valid nw st feeder train valid
