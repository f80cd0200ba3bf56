use Rattle.query_crew.proofs.InOrder.{window-in-order}
use Rattle.query_crew.proofs.served_laws.replies_in_order_are_those_of_a_window.Goals as goal

pub returns : goal.returns
returns c = λ nw names st before window replies same h. window-in-order nw names st before window replies same h
