-- Stored times that are those of a state's labels.
use Rattle.std.specs.Prelude.{◌≡◌, ℕ, List, map}
use Rattle.delay_model.specs.declared.state.State.{State}
use Rattle.delay_model.specs.declared.state.Train.{Train}
use Rattle.train_nodes.specs.Times.{StoredTimes, AreSized}

-- how many labels each train has used
abbrev pub next_labels : State → List ℕ
next_labels st = map (λ (t : Train). t.next_label) st.trains

-- for each label that a train has used times are stored, and there is room for those of as many
-- more trains and calls as are spare
pub record HasTimesFor (st : State) (stored : StoredTimes) : Type 0 where
  pub sized : AreSized (next_labels st) stored
  pub spare_trains : stored.spare_trains ≡ st.spare_trains
  pub spare_calls : stored.spare_calls ≡ st.spare_calls
