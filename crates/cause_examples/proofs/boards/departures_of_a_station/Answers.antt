use Rattle.model_examples.proofs.Words.{refl, is_same, is_same_node, is_before, change, wait, events, transfer, effect, time, time_within, local, incoming, cap}
use Rattle.model_examples.proofs.Compute.{no_overrides}
use Rattle.cause_examples.proofs.ComputeBoards.{board-is}
use Rattle.board_laws.specs.Boards.{is_row_before}
use Rattle.cause_examples.proofs.boards.departures_of_a_station.Goals as goal

pub returns : goal.returns
unfolding time time_within local incoming cap transfer change wait events effect is_same is_same_node is_before is_row_before
returns c = record { station = board-is _ _ no_overrides _ _ _ _ refl; one = board-is _ _ no_overrides _ _ _ _ refl; at_the_second = board-is _ _ no_overrides _ _ _ _ refl; later = board-is _ _ no_overrides _ _ _ _ refl; last_stop = board-is _ _ no_overrides _ _ _ _ refl }
