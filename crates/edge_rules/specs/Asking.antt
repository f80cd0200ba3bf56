-- The times that edges ask for, by stored times.
use Rattle.std.specs.Prelude.{◌≡◌, ℕ, ◌+◌, ◌<◌, ◌^◌, List, true, fold, length}
use Rattle.mt_base.specs.Order.{node_of}
use Rattle.delay_model.specs.declared.state.Edge.{Edge}
use Rattle.delay_model.specs.Timing.{later}
use Rattle.train_nodes.specs.Times.{StoredTimes, has_time}
use Rattle.edge_rules.specs.AtEvent.{stored_time}

-- the time of the event that the edge leaves is stored, and what it asks for is in range
pub record IsReady (k : StoredTimes) (e : Edge) : Type 0 where
  pub has : has_time k (node_of e.from) ≡ true
  pub fits : stored_time k e.from + e.weight < 2 ^ 25

-- from a time and a number of steps these edges lead to another time, each by one step
pub record IsLater (k : StoredTimes) (so_far steps : ℕ) (gs : List Edge) (time spent : ℕ) :
    Type 0 where
  pub value : time ≡ fold (later (stored_time k)) so_far gs
  pub small : time < 2 ^ 25
  pub cost : spent ≡ steps + length gs
