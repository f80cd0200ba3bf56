-- Names and trains stay in step, line by line.
use Rattle.information_service.proofs.Words.{◌≡◌, ℕ, List, [], ◌∷◌, true, false, Option, Some, None, Result, Ok, Err, is_none, length, refl, sym, subst, arith, inl, inr, cases_Bool, Message, Refusal, Network, State, accepted, known_after, refusal, resolved, Wire, Names, by_names, names_with}
use Rattle.std.specs.Prelude.{IfSome}
use Rattle.mt_base.specs.declared.keys.Node.{Node}
use Rattle.mt_base.specs.declared.new_calls.NewCall.{NewCall}
use Rattle.delay_model.specs.declared.messages.Message.TheVariants as messages
use Rattle.delay_model.specs.declared.messages.Refusal.TheVariants.{Known, Unknown}
use Rattle.delay_model.specs.After.{after_messages}
use Rattle.delay_model.specs.Effect.{effect}
use Rattle.message_reader.specs.Chain.{◌>>=◌, need, unless}
use Rattle.message_reader.specs.Resolved.{event_resolved, correct_resolved, withdraw_resolved, cancel_resolved, reroute_resolved, extra_resolved, connect_resolved, connect_message, new_calls, node_named, train_on}
use Rattle.train_nodes.specs.Kinds.{message_by_kind}
use Rattle.train_nodes.specs.declared.kinds.ValueKind.{ValueKind}
use Rattle.train_nodes.specs.declared.kinds.ValueKind.TheVariants as values
use Rattle.message_reader.specs.declared.wire.Connect.{Connect as AConnect}
use Rattle.message_reader.specs.declared.wire.Connect.TheVariants as connects
use Rattle.message_reader.specs.declared.wire.Wire.TheVariants.{Event, Correct, Withdraw, Cancel, Reroute, Extra, Connect}
use Rattle.message_reader.specs.declared.wire.WireCall.{WireCall}
use Rattle.schedule_build.proofs.InStepLemmas.{message-in_step, extra-next}
use Rattle.schedule_build.specs.Directory.{day_named, train_named, route_named}
use Rattle.schedule_build.specs.InStep.{AreInStep}
use Rattle.information_service.specs.Lines.{added_name, CanBeAdded}

-- the first step of a chain that ends well, and the rest
record EndsWell {A B E : Type 0} (first : Result A E) (rest : A → Result B E) (y : B) : Type 0 where
  value : A
  first_is : first ≡ Ok value
  rest_is : rest value ≡ Ok y

ends-well : {A B E : Type 0} (first : Result A E) (rest : A → Result B E) (y : B) → (first >>= rest) ≡ Ok y → EndsWell first rest y
ends-well (Ok x) rest y h = record { value = x; first_is = refl; rest_is = h }
ends-well (Err e) rest y h = absurd (cc)

needed : {A E : Type 0} (fault : E) (o : Option A) (x : A) → need fault o ≡ Ok x → o ≡ Some x
needed fault None x h = absurd (cc)
needed fault (Some z) x h = grind arith

none-named : (o : Option ℕ) (u : Unit {0}) → unless (is_none o) Known ≡ Ok u → o ≡ None
none-named None u h = refl
none-named (Some n) u h = absurd (cc)

-- the message of an extra train
record IsOfExtra (names : Names) (trip : List ℕ) (date : ℕ) (m : Message) : Type 0 where
  day : ℕ
  route : ℕ
  calls : List NewCall
  day_is : day_named names date ≡ Some day
  message : m ≡ messages.Extra (length names.trains) day route calls
  new : train_named names trip day ≡ None

of-extra : (names : Names) (trip : List ℕ) (date : ℕ) (route : List ℕ) (calls : List WireCall) (m : Message) → extra_resolved names trip date route calls ≡ Ok m → IsOfExtra names trip date m
unfolding extra_resolved
of-extra names trip date route calls m h =
    let a = ends-well (need Unknown (day_named names date)) _ m h in
    let b = ends-well (need Unknown (route_named names route)) _ m a.rest_is in
    let c = ends-well (new_calls names a.value calls) _ m b.rest_is in
    let d = ends-well (unless (is_none (train_named names trip a.value)) Known) _ m c.rest_is in
    record {
      day = a.value;
      route = b.value;
      calls = c.value;
      day_is = needed Unknown (day_named names date) a.value a.first_is;
      message = grind (arith, d.rest_is);
      new = none-named (train_named names trip a.value) d.value d.first_is;
    }

value-is : {A E : Type 0} (x y : A) → ◌≡◌ {A = Result A E} (Ok x) (Ok y) → y ≡ x
value-is x y h = grind arith

of-event : (names : Names) (st : State) (kind : ValueKind) (n : Node) (t : ℕ) (m : Message) → AreInStep names st → m ≡ message_by_kind kind n t → AreInStep names (effect st m)
of-event names st values.Report n t m h is = rw is (message-in_step names st [] (messages.Report n t) h tt)
of-event names st values.Forecast n t m h is = rw is (message-in_step names st [] (messages.Forecast n t) h tt)

of-correct : (names : Names) (st : State) (n : Node) (o : Option ℕ) (m : Message) → AreInStep names st → m ≡ messages.Correct n o → AreInStep names (effect st m)
of-correct names st n o m h is = rw is (message-in_step names st [] (messages.Correct n o) h tt)

of-withdraw : (names : Names) (st : State) (n : Node) (m : Message) → AreInStep names st → m ≡ messages.Withdraw n → AreInStep names (effect st m)
of-withdraw names st n m h is = rw is (message-in_step names st [] (messages.Withdraw n) h tt)

of-connect : (names : Names) (st : State) (kind : AConnect) (feeder train : Node) (m : Message) → AreInStep names st → m ≡ connect_message kind feeder train → AreInStep names (effect st m)
of-connect names st connects.Keep feeder train m h is = rw is (message-in_step names st [] (messages.Keep feeder train) h tt)
of-connect names st connects.Drop feeder train m h is = rw is (message-in_step names st [] (messages.Drop feeder train) h tt)
of-connect names st connects.Rule feeder train m h is = rw is (message-in_step names st [] (messages.Rule feeder train) h tt)

-- each message keeps names and trains in step
pub stays-in_step : (names : Names) (st : State) (w : Wire) (m : Message) → AreInStep names st → resolved names w ≡ Ok m → AreInStep (names_with names w) (effect st m)
unfolding resolved event_resolved correct_resolved withdraw_resolved cancel_resolved reroute_resolved connect_resolved
stays-in_step names st (Event kind trip date call dep secs) m h is =
    let a = ends-well (train_on names trip date) _ m is in
    of-event names st kind _ _ m h (value-is _ m a.rest_is)
stays-in_step names st (Correct trip date call dep secs) m h is =
    let a = ends-well (train_on names trip date) _ m is in
    of-correct names st _ _ m h (value-is _ m a.rest_is)
stays-in_step names st (Withdraw trip date call dep) m h is =
    let a = ends-well (train_on names trip date) _ m is in
    of-withdraw names st _ m h (value-is _ m a.rest_is)
stays-in_step names st (Cancel trip date from to) m h is =
    let a = ends-well (train_on names trip date) _ m is in
    let cancel : m ≡ messages.Cancel a.value.train from to = grind (arith, a.rest_is) in
    rw cancel (message-in_step names st [] (messages.Cancel a.value.train from to) h tt)
stays-in_step names st (Reroute trip date from to via) m h is =
    let a = ends-well (train_on names trip date) _ m is in
    let b = ends-well (new_calls names a.value.day via) _ m a.rest_is in
    let reroute : m ≡ messages.Reroute a.value.train from to b.value = grind (arith, b.rest_is) in
    rw reroute (message-in_step names st [] (messages.Reroute a.value.train from to b.value) h tt)
stays-in_step names st (Extra trip date route calls) m h is =
    let x = of-extra names trip date route calls m is in
    let kept : AreInStep (names_with names (Extra trip date route calls)) (effect st (messages.Extra (length names.trains) x.day x.route x.calls)) =
    rw x.day_is (message-in_step names st trip (messages.Extra (length names.trains) x.day x.route x.calls) h x.new) in
    subst (λ (n : Message). AreInStep (names_with names (Extra trip date route calls)) (effect st n)) (sym x.message) kept
stays-in_step names st (Connect kind feeder train) m h is =
    let a = ends-well (node_named names false feeder) _ m is in
    let b = ends-well (node_named names true train) _ m a.rest_is in
    of-connect names st kind a.value b.value m h (value-is _ m b.rest_is)

-- the name of a train that an accepted message adds can be added
pub can-be-added : (nw : Network) (names : Names) (st : State) (w : Wire) (m : Message)
    → AreInStep names st → resolved names w ≡ Ok m → refusal nw st m ≡ None → IfSome (added_name names w) (CanBeAdded names)
unfolding resolved
can-be-added nw names st (Event kind trip date call dep secs) m h is accepted = tt
can-be-added nw names st (Correct trip date call dep secs) m h is accepted = tt
can-be-added nw names st (Withdraw trip date call dep) m h is accepted = tt
can-be-added nw names st (Cancel trip date from to) m h is accepted = tt
can-be-added nw names st (Reroute trip date from to via) m h is accepted = tt
can-be-added nw names st (Extra trip date route calls) m h is accepted =
    let x = of-extra names trip date route calls m is in
    rw x.day_is (record { room = (extra-next nw names st (length names.trains) x.day x.route x.calls h (rw x.message at accepted)).1; new = x.new })
can-be-added nw names st (Connect kind feeder train) m h is accepted = tt

-- so they are in step after any messages
by-answer : (nw : Network) (names : Names) (st : State) (w : Wire) (ws : List Wire) (read : Result Message Refusal) → resolved names w ≡ read → AreInStep names st
    → ((other : Names) (now : State) → AreInStep other now → AreInStep (known_after nw by_names now other ws) (after_messages now (accepted nw by_names now other ws)))
    → AreInStep (known_after nw by_names st names (w ∷ ws)) (after_messages st (accepted nw by_names st names (w ∷ ws)))
by-answer nw names st w ws (Err r) is h rest = rw is (rest names st h)
by-answer nw names st w ws (Ok m) is h rest =
    elim (cases_Bool (is_none (refusal nw st m))) [
      | inl accepted ↦ rw (is, accepted) (rest (names_with names w) (effect st m) (stays-in_step names st w m h is))
      | inr refused ↦ rw (is, refused) (rest names st h)
    ]

pub messages-in_step : (nw : Network) (names : Names) (st : State) (ws : List Wire)
    → AreInStep names st → AreInStep (known_after nw by_names st names ws) (after_messages st (accepted nw by_names st names ws))
messages-in_step nw names st [] h = h
messages-in_step nw names st (w ∷ ws) h = by-answer nw names st w ws (resolved names w) refl h (λ other now k. messages-in_step nw other now ws k)
