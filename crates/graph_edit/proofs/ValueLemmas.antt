-- Refusals of messages about reports and forecasts.
use Rattle.std.proofs.Common.{◌≡◌, ℕ, Bool, true, false, not, nat_lt, List, Option, Some, None, refl, ap}
use Rattle.std.specs.Option.{option_and_then, option_or}
use Rattle.mt_base.specs.declared.keys.Node.{Node}
use Rattle.delay_model.specs.declared.messages.Message.TheVariants.{Correct, Withdraw}
use Rattle.delay_model.specs.declared.messages.Refusal.{Refusal}
use Rattle.delay_model.specs.declared.messages.Refusal.TheVariants.{Nothing, Unknown}
use Rattle.delay_model.specs.declared.state.Event.{Event}
use Rattle.delay_model.specs.declared.network.Network.{Network}
use Rattle.delay_model.specs.declared.state.State.{State}
use Rattle.delay_model.specs.Events.{is_live, train_events}
use Rattle.delay_model.specs.Refusals.{refusal, refused_if, first_reported, contradicted_at, has_nothing}
use Rattle.train_nodes.specs.declared.kinds.Value.{Value}
use Rattle.train_nodes.specs.declared.kinds.Value.TheVariants as Values
use Rattle.train_nodes.specs.declared.kinds.ValueKind.{ValueKind}
use Rattle.train_nodes.specs.declared.kinds.ValueKind.TheVariants.{Report, Forecast}
use Rattle.train_nodes.specs.Kinds.{changed_event, message_by_kind, message_of_value}

-- what is still to be found among these events of the train: behind the event n, or from before it on
abbrev pub to_find : Bool → Bool → ℕ → Node → List Event → Option Refusal
to_find true replaces t n es = first_reported (λ r. nat_lt r t) es
to_find false replaces t n es = contradicted_at replaces t n es

-- no refusal comes after this one
pub none-after : (o : Option Refusal) → option_or o None ≡ o
none-after None = refl
none-after (Some r) = refl

-- a report and a forecast are refused alike
pub refused_event : (nw : Network) (st : State) (k : ValueKind) (n : Node) (t : ℕ) → refusal nw st (message_by_kind k n t) ≡ option_or (refused_if (not (is_live st n)) Unknown) (contradicted_at false t n (train_events st n.train))
unfolding refusal
refused_event nw st Report n t = ap (option_or (refused_if (not (is_live st n)) Unknown)) (none-after (contradicted_at false t n (train_events st n.train)))
refused_event nw st Forecast n t = ap (option_or (refused_if (not (is_live st n)) Unknown)) (none-after (contradicted_at false t n (train_events st n.train)))

-- a correction, and a withdrawal
pub refused_correction : (nw : Network) (st : State) (n : Node) (o : Option ℕ) → refusal nw st (Correct n o) ≡ option_or (refused_if (not (is_live st n)) Unknown) (option_or (option_and_then (λ t. contradicted_at true t n (train_events st n.train)) o) (refused_if (has_nothing st (Correct n o)) Nothing))
unfolding refusal
refused_correction nw st n o = refl

pub refused_withdrawal : (nw : Network) (st : State) (n : Node) → refusal nw st (Withdraw n) ≡ option_or (refused_if (not (is_live st n)) Unknown) (refused_if (has_nothing st (Withdraw n)) Nothing)
unfolding refusal
refused_withdrawal nw st n = refl

-- an event of which something may be said is live
shown_live : (b : Bool) (o : Option Refusal) → option_or (refused_if (not b) Unknown) o ≡ None → b ≡ true
shown_live true o h = refl
shown_live false o h = absurd (cc)

-- an accepted message about a report or a forecast names a live event
pub value_live : (nw : Network) (st : State) (v : Value) → refusal nw st (message_of_value v) ≡ None → is_live st (changed_event v) ≡ true
unfolding refusal
value_live nw st (Values.Event Report n t) h = shown_live (is_live st n) _ h
value_live nw st (Values.Event Forecast n t) h = shown_live (is_live st n) _ h
value_live nw st (Values.Correct n o) h = shown_live (is_live st n) _ h
value_live nw st (Values.Withdraw n) h = shown_live (is_live st n) _ h
