-- The sums over the replies that `serve` writes.
use Rattle.std.specs.Prelude.{ℕ, ◌≡◌, List}
use Rattle.delay_model.specs.declared.network.Network.{Network}
use Rattle.delay_model.specs.declared.state.State.{State}
use Rattle.mt_io.specs.Lines.{Line}
use Rattle.query_crew.specs.Served.{IsServed, replies_of}
use Rattle.window_service.specs.declared.sums.ReplySums.{ReplySums}
use Rattle.window_service.specs.Sums.{sums_over}
use Rattle.schedule_build.specs.Directory.{Names}

-- these are the sums over the replies of an output for these lines, which are all of an input
pub record AreSummed (nw : Network) (names : Names) (st : State) (lines : List Line)
    (sums : ReplySums) : Type 0 where
  pub output : List ℕ
  pub served : IsServed nw names st lines output
  pub sums_are : sums ≡ sums_over (replies_of served.replies)
