-- Names and trains that belong together.
use Rattle.std.specs.Prelude.{◌≡◌, ℕ, List, None, length, map}
use Rattle.delay_model.specs.Names.{TrainName}
use Rattle.delay_model.specs.declared.messages.Message.{Message}
use Rattle.delay_model.specs.declared.messages.Message.TheVariants.{Extra}
use Rattle.delay_model.specs.declared.state.State.{State}
use Rattle.delay_model.specs.declared.state.Train.{Train}
use Rattle.feed_tables.specs.Lawful.{AreDistinct}
use Rattle.schedule_build.specs.Directory.{Names, train_named, with_extra}

-- the names and the trains of a state are in step
pub record AreInStep (names : Names) (st : State) : Type 0 where
  -- each train has a name, and each name is that of a train
  pub count : length names.trains ≡ length st.trains
  -- the service day of each train is that of its name
  pub days : map (λ (n : TrainName). n.day) names.trains ≡ map (λ (t : Train). t.day) st.trains
  -- no two trains have one name
  pub distinct : AreDistinct names.trains
  -- there is room for as many names as for trains
  pub spare : names.spare_trains ≡ st.spare_trains

-- the names after a message: a train that it adds is of this trip, and no other message adds a name
abbrev pub names_after_message : List ℕ → Names → Message → Names
names_after_message trip names (Extra train day route calls) = with_extra trip day names
names_after_message trip names _ = names

-- a train that a message adds as one of this trip is not there yet
abbrev pub IsNewTrain : List ℕ → Names → Message → Type 0
IsNewTrain trip names (Extra train day route calls) = train_named names trip day ≡ None
IsNewTrain trip names _ = Unit {0}
