-- What is known of a message that meets no refusal.
use Rattle.state_laws.proofs.Words.{◌≡◌, ℕ, Bool, false, List, [], ◌∷◌, Option, None, All-cons, All-nil, All, IfSome, option_or, arith, live_report, refusal, refused_if, is_unknown}
use Rattle.state_laws.proofs.Words.{is_known, has_no_connection, has_nothing, contradiction, against_rank, shortage, first_reported, Message, Network, Event, State}
use Rattle.delay_model.specs.declared.messages.Refusal.{Refusal}

-- no cause of a refusal holds
pub record IsAccepted (nw : Network) (st : State) (m : Message) : Type 0 where
  pub known : is_unknown nw st m ≡ false
  pub new : is_known st m ≡ false
  pub connection : has_no_connection nw st m ≡ false
  pub agrees : contradiction st m ≡ None
  pub in_rank : against_rank nw st m ≡ None
  pub room : shortage st m ≡ None
  pub something : has_nothing st m ≡ false

pub or-none : {X : Type 0} (a b : Option X) → option_or a b ≡ None → (a ≡ None) × (b ≡ None)
or-none a b h = grind arith

pub refused-none : (b : Bool) (r : Refusal) → refused_if b r ≡ None → b ≡ false
refused-none b r h = grind arith

pub accepted-by : (nw : Network) (st : State) (m : Message) → refusal nw st m ≡ None → IsAccepted nw st m
unfolding refusal
accepted-by nw st m h = grind arith

-- where no report passes a test, each fails it
pub none-reported : (p : ℕ → Bool) (es : List Event) → first_reported p es ≡ None → All (λ v. IfSome (live_report v) (λ r. p r ≡ false)) es
none-reported p [] h = All-nil _
none-reported p (v ∷ vs) h = grind (arith, All-cons (λ v. IfSome (live_report v) (λ r. p r ≡ false)), none-reported p vs)
