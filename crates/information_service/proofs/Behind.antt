-- What is done right behind a message.
use Rattle.information_service.proofs.Words.{◌≡◌, ◌<◌, ◌+◌, ℕ, Option, Some, None, Result, Ok, Err, refl, sym, ap, ◌∙◌, arith, Message, Names, Network, State, Refusal, Reply, refusal, Wire, resolved, accepted_message}
use Rattle.std.specs.Prelude.{true, false, IfOk, IfErr, OnOk, ◌^◌, ◌≤◌}
use Rattle.delay_model.specs.Messages.{IsWellFormed}
use Rattle.delay_model.specs.Valid.{IsValid}
use Rattle.schedule_build.specs.InStep.{AreInStep}
use Rattle.timetable.specs.TimetableState.{TimetableState, counted, stepped}
use Rattle.information_service.specs.Following.{HasJustTaken, IsFollowed, IsLeft, IsTaken, is_accepted}
use Rattle.information_service.specs.Output.{reply_to_message, reply_to_refused}
use Rattle.information_service.specs.ServiceState.{after_message}
use Rattle.information_service.specs.Taking.{HasTaken, IsHeldAfter, IsStepped, IsTakenFrom, IsTimetable, service_with}
use Rattle.information_service.proofs.Taken.{next-service, ready-behind}

-- no reply to a refused message says that one is accepted
refused-not : (names : Names) (line : ℕ) (w : Wire) (r : Refusal) → is_accepted (reply_to_refused names line w r) ≡ false
refused-not names line w r = grind arith

-- ---- a message that is accepted

record IsAccepted (nw : Network) (st : State) (read : Result Message Refusal) : Type 0 where
  message : Message
  read_is : read ≡ Ok message
  accepted : refusal nw st message ≡ None

accepted-by : (nw : Network) (names : Names) (st : State) (count line : ℕ) (w : Wire) (m : Message) (o : Option Refusal)
    → refusal nw st m ≡ o → is_accepted (reply_to_message nw names st count line w (Ok m)) ≡ true → IsAccepted nw st (Ok m)
accepted-by nw names st count line w m None is yes' = record { message = m; read_is = refl; accepted = is }
accepted-by nw names st count line w m (Some r) is yes' = absurd (cc (sym (refused-not names line w r), rw is at yes'))

accepted-of : (nw : Network) (names : Names) (st : State) (count line : ℕ) (w : Wire) (read : Result Message Refusal)
    → is_accepted (reply_to_message nw names st count line w read) ≡ true → IsAccepted nw st read
accepted-of nw names st count line w (Ok m) yes' = accepted-by nw names st count line w m (refusal nw st m) refl yes'
accepted-of nw names st count line w (Err r) yes' = absurd (cc)

-- ---- a message that is not

none-by : (nw : Network) (names : Names) (st : State) (count line : ℕ) (w : Wire) (m : Message) (o : Option Refusal)
    → refusal nw st m ≡ o → is_accepted (reply_to_message nw names st count line w (Ok m)) ≡ false → accepted_message nw st (Ok m) ≡ None
none-by nw names st count line w m None is not = absurd (cc (rw is at not))
none-by nw names st count line w m (Some r) is not = rw is refl

none-of : (nw : Network) (names : Names) (st : State) (count line : ℕ) (w : Wire) (read : Result Message Refusal)
    → is_accepted (reply_to_message nw names st count line w read) ≡ false → accepted_message nw st read ≡ None
none-of nw names st count line w (Ok m) not = none-by nw names st count line w m (refusal nw st m) refl not
none-of nw names st count line w (Err r) not = refl

module _ (t now : TimetableState) (number : ℕ) (w : Wire) (names known : Names) (reply : Reply) (taken : IsTaken t now number w names known reply) where
  -- nothing is done behind it
  pub nothing-done : {C R : Type 0} (Follows : Network → State → C → R → C → Type 0) (kept : C) → false ≡ is_accepted reply
      → IsFollowed Follows (service_with t t.count names) (resolved names w) kept None kept
  nothing-done Follows kept not =
      let not_replied = ap is_accepted (sym taken.replied) ∙ sym not in
      let none : accepted_message t.network t.state (resolved names w) ≡ None = none-of t.network names t.state t.count number w (resolved names w) not_replied in
      rw none (refl, refl)

  module _ (yes' : true ≡ is_accepted reply) where
    is : IsAccepted t.network t.state (resolved names w)
    is = accepted-of t.network names t.state t.count number w (resolved names w) (ap is_accepted (sym taken.replied) ∙ sym yes')

    took : now ≡ stepped t is.message
    took = let h : HasTaken IsStepped t t now (Ok is.message) = rw is.read_is at taken.holder in rw is.accepted at h

    message-is : accepted_message t.network t.state (resolved names w) ≡ Some is.message
    message-is = rw (is.read_is, is.accepted) refl

    pub just-taken : {C : Type 0} (Ready : Network → State → C → Type 0) (kept : C) → IsValid t.network t.state
        → IfOk (resolved names w) IsWellFormed → Ready t.network t.state kept → HasJustTaken Ready now kept
    just-taken Ready kept valid formed ready = rw took (record {
      before = t.state;
      message = is.message;
      valid = valid;
      formed = rw is.read_is at formed;
      accepted = is.accepted;
      state_is = refl;
      changed_are = refl;
      ready = ready;
    })

    pub all-done : {C R : Type 0} (Follows : Network → State → C → R → C → Type 0) (old : C) (r : R) (new : C) → Follows now.network now.state old r new
        → IsFollowed Follows (service_with t t.count names) (resolved names w) old (Some r) new
    all-done Follows old r new done = rw message-is (r, refl, rw took at done)

-- ---- what is left of the timetable

count-by : (t now : TimetableState) (m : Message) (o : Option Refusal) → IsHeldAfter IsStepped t now m o → now.count ≤ t.count + 1
count-by t now m None is = let e : now.count ≡ counted t.count = ap (λ (t : TimetableState). t.count) is in omega (arith, e)
count-by t now m (Some r) is = let e : now.count ≡ t.count = ap (λ (t : TimetableState). t.count) is in omega (arith, e)

count-of : (t now : TimetableState) (read : Result Message Refusal) → HasTaken IsStepped t t now read → now.count ≤ t.count + 1
count-of t now (Ok m) taken = count-by t now m (refusal t.network t.state m) taken
count-of t now (Err r) same = let e : now.count ≡ t.count = ap (λ (t : TimetableState). t.count) same in omega (arith, e)

count-behind : {E : Type 0} (number : ℕ) (w : Wire) (t now : TimetableState) (names known : Names) (run : Result Reply E)
    → IfOk run (IsTakenFrom IsTimetable IsStepped number w t now names known) → IfErr run (λ _. now ≡ t) → now.count ≤ t.count + 1
count-behind number w t now names known (Ok reply) took same = count-of t now (resolved names w) (took t t.count (refl, refl)).holder
count-behind number w t now names known (Err fault) took same = let e : now.count ≡ t.count = ap (λ (t : TimetableState). t.count) same in omega (arith, e)

pub left-behind : {E : Type 0} (number : ℕ) (w : Wire) (t now : TimetableState) (names known : Names) (run : Result Reply E)
    → IfOk run (IsTakenFrom IsTimetable IsStepped number w t now names known) → IfErr run (λ _. now ≡ t) → IfErr run (λ _. known ≡ names)
    → AreInStep names t.state → IsLeft t now known
left-behind number w t now names known run took same same-names h =
    let still = ready-behind number w t now names known run took same same-names h in
    record { network = still.network; numbers = still.numbers; in_step = still.in_step; count = count-behind number w t now names known run took same }

-- the service after a message that was taken so
pub next-behind : {F E : Type 0} (told : F → Reply) (number : ℕ) (w : Wire) (t now : TimetableState) (names known : Names) (run : Result F E) → t.count + 1 < 2 ^ 64
    → IfOk run (λ f. IsTaken t now number w names known (told f)) → OnOk run (service_with now now.count known ≡ after_message (service_with t t.count names) w (resolved names w))
next-behind told number w t now names known (Ok f) few taken = next-service t now names known w (resolved names w) few taken.holder taken.known
next-behind told number w t now names known (Err e) few taken = tt
