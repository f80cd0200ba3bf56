use Rattle.model_examples.proofs.Words.{refl, is_same, is_same_node, is_before, change, wait, events, transfer, effect, time, time_within, local, incoming, cap}
use Rattle.model_examples.proofs.Compute.{no_overrides, still_none}
use Rattle.cause_examples.proofs.ComputeBoards.{board-is}
use Rattle.board_laws.specs.Boards.{is_row_before}
use Rattle.cause_examples.proofs.boards.departures_of_a_cancelled_train.Goals as goal

pub returns : goal.returns
unfolding time time_within local incoming cap transfer change wait events effect is_same is_same_node is_before is_row_before
returns c =
    let behind_b = still_none _ no_overrides in
    let before_b = still_none _ no_overrides in
    record {
      not_on = board-is _ _ behind_b _ _ _ _ refl;
      to_b = board-is _ _ behind_b _ _ _ _ refl;
      not_at_a = board-is _ _ before_b _ _ _ _ refl;
      from_b = board-is _ _ before_b _ _ _ _ refl;
    }
