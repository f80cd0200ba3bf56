-- The accepted messages of a list of lines.
use Rattle.std.proofs.Common.{◌≡◌, true, cond, List, [], ◌∷◌, ◌++◌, Option, Some, None, Result, Ok, Err, refl, sym, ap, subst, inl, inr}
use Rattle.std.specs.Option.{is_none, option_map_or}
use Rattle.std.proofs.lemmas.Bool.{cases_Bool}
use Rattle.delay_model.specs.declared.network.Network.{Network}
use Rattle.delay_model.specs.declared.state.State.{State}
use Rattle.delay_model.specs.declared.messages.Message.{Message}
use Rattle.delay_model.specs.declared.messages.Refusal.{Refusal}
use Rattle.delay_model.specs.Effect.{effect}
use Rattle.delay_model.specs.Refusals.{refusal}
use Rattle.delay_model.specs.After.{after_messages, AreAccepted, Reading, accepted_message, accepted, known_after}

none-is : (o : Option Refusal) → is_none o ≡ true → o ≡ None
none-is None h = refl
none-is (Some r) h = absurd (cc)

-- a message that a line gives is accepted
IsSound : Network → State → Option Message → Type 0
IsSound nw st None = Unit {0}
IsSound nw st (Some m) = refusal nw st m ≡ None

accepted_message-sound : (nw : Network) (st : State) (read : Result Message Refusal) → IsSound nw st (accepted_message nw st read)
unfolding IsSound
accepted_message-sound nw st (Err r) = tt
accepted_message-sound nw st (Ok m) =
    elim (cases_Bool (is_none (refusal nw st m))) [
      | inl accepts ↦ subst (λ b. IsSound nw st (cond b (Some m) None)) (sym accepts) (none-is (refusal nw st m) accepts)
      | inr refuses ↦ subst (λ b. IsSound nw st (cond b (Some m) None)) (sym refuses) tt
    ]

one-more : (nw : Network) (st : State) (o : Option Message) (next : Message → List Message) (rest : List Message) → IsSound nw st o → ((m : Message) → AreAccepted nw (effect st m) (next m)) → AreAccepted nw st rest → AreAccepted nw st (option_map_or (λ m. m ∷ next m) o rest)
unfolding IsSound
one-more nw st None next rest h k l = l
one-more nw st (Some m) next rest h k l = (h, k m)

-- the accepted messages of lines are accepted, each in the state after those before it
pub accepted-are : {X N : Type 0} (nw : Network) (reading : Reading X N) (st : State) (names : N) (lines : List X) → AreAccepted nw st (accepted nw reading st names lines)
accepted-are nw reading st names [] = tt
accepted-are nw reading st names (x ∷ xs) =
    one-more nw st (accepted_message nw st (reading.message names x)) (λ m. accepted nw reading (effect st m) (reading.known names x) xs) (accepted nw reading st names xs)
    (accepted_message-sound nw st (reading.message names x))
    (λ m. accepted-are nw reading (effect st m) (reading.known names x) xs)
    (accepted-are nw reading st names xs)

more-by : {X N : Type 0} (nw : Network) (reading : Reading X N) (st : State) (o : Option Message) (accepts : Message → List Message) (knows : Message → N) (rest both : List Message) (left : N) (more : Message → List Message) (others : List X) → ((m : Message) → more m ≡ accepts m ++ accepted nw reading (after_messages (effect st m) (accepts m)) (knows m) others) → both ≡ rest ++ accepted nw reading (after_messages st rest) left others → option_map_or (λ m. m ∷ more m) o both ≡ option_map_or (λ m. m ∷ accepts m) o rest ++ accepted nw reading (after_messages st (option_map_or (λ m. m ∷ accepts m) o rest)) (option_map_or knows o left) others
more-by nw reading st None accepts knows rest both left more others h k = k
more-by nw reading st (Some m) accepts knows rest both left more others h k = ap (λ ms. m ∷ ms) (h m)

-- the accepted messages of more lines begin with those of the first lines
pub accepted-append : {X N : Type 0} (nw : Network) (reading : Reading X N) (st : State) (names : N) (lines others : List X) → accepted nw reading st names (lines ++ others) ≡ accepted nw reading st names lines ++ accepted nw reading (after_messages st (accepted nw reading st names lines)) (known_after nw reading st names lines) others
accepted-append nw reading st names [] others = refl
accepted-append nw reading st names (x ∷ xs) others =
    more-by nw reading st (accepted_message nw st (reading.message names x)) (λ m. accepted nw reading (effect st m) (reading.known names x) xs) (λ m. known_after nw reading (effect st m) (reading.known names x) xs) (accepted nw reading st names xs) (accepted nw reading st names (xs ++ others)) (known_after nw reading st names xs) (λ m. accepted nw reading (effect st m) (reading.known names x) (xs ++ others)) others
    (λ m. accepted-append nw reading (effect st m) (reading.known names x) xs others)
    (accepted-append nw reading st names xs others)
