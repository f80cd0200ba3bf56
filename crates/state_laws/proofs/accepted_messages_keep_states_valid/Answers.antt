use Rattle.std.proofs.Common.{List, [], ◌∷◌}
use Rattle.std.specs.List.{All}
use Rattle.std.proofs.lemmas.List.Elements.{All-head, All-tail}
use Rattle.delay_model.specs.declared.network.Network.{Network}
use Rattle.delay_model.specs.declared.messages.Message.{Message}
use Rattle.delay_model.specs.declared.state.State.{State}
use Rattle.delay_model.specs.After.{after_messages, AreAccepted}
use Rattle.delay_model.specs.Effect.{effect}
use Rattle.delay_model.specs.Messages.{IsWellFormed}
use Rattle.delay_model.specs.Valid.{IsValid}
use Rattle.state_laws.proofs.Stays.{stays-valid}
use Rattle.state_laws.proofs.accepted_messages_keep_states_valid.Goals as goal

all-valid : (nw : Network) (st : State) (ms : List Message) → IsValid nw st → All IsWellFormed ms → AreAccepted nw st ms → IsValid nw (after_messages st ms)
all-valid nw st [] valid well h = valid
all-valid nw st (m ∷ ms) valid well h =
    all-valid nw (effect st m) ms (stays-valid nw st m valid (All-head IsWellFormed m ms well) h.0) (All-tail IsWellFormed m ms well) h.1

pub returns-clause-one : goal.returns-clause-one
returns-clause-one c = λ m well h. stays-valid c.args.nw.now c.args.st.now m c.requires well h

pub returns-clause-all : goal.returns-clause-all
returns-clause-all c = λ ms well h. all-valid c.args.nw.now c.args.st.now ms c.requires well h
