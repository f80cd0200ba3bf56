-- What an operation does to the meaning and the messages.
use Rattle.std.specs.Prelude.{List}
use Rattle.snapshot_board.specs.declared.operation.Operation.{Operation}
use Rattle.snapshot_board.specs.declared.operation.Operation.TheVariants.{MakeRoom, Post}
use Rattle.snapshot_board.specs.States.{taken_in}

abbrev pub applied_to : {S H M St : Type 0} {replay opening history : _} → (St → M → St)
    → St × List M → Operation S H M St replay opening history → St × List M
applied_to after s MakeRoom = s
applied_to after s (Post p) = taken_in after s p.message p.before
