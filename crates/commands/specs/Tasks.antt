-- What a command is to do: what it begins with, and what it writes.
use Rattle.std.specs.Prelude.{ℕ, List, [], Result, Ok}
use Rattle.command_words.specs.Words.{Asked}
use Rattle.delay_model.specs.declared.network.Network.{Network}
use Rattle.delay_model.specs.declared.state.State.{State}
use Rattle.gtfs_tables.specs.Feeds.{Files}
use Rattle.information_service.specs.Output.{AreReplies, IsOutput}
use Rattle.information_service.specs.ServiceState.{ServiceState}
use Rattle.mt_io.specs.Lines.{Line}
use Rattle.query_crew.specs.Served.{IsServed}
use Rattle.schedule_build.specs.Directory.{Names}
use Rattle.window_service.specs.Whole.{AreWholeWindowsServed}

-- a service that has accepted no message
abbrev pub first_service : Network → Names → State → ServiceState
first_service nw names st = record { network = nw; state = st; count = 0; names = names }

-- what a command writes for the lines of an input, by what it begins with
pub record Output (B : Type 0) : Type 1 where
  -- these bytes are a whole output of these lines
  pub IsWhole : B → List Line → List ℕ → Type 0
  -- these bytes are the replies to these lines, which begin an input, as far as they are written
  -- before the input is at its end
  pub AreReplies : B → List Line → List ℕ → Type 0

-- what a command is to do
pub record Task (B : Type 0) : Type 1 where
  -- what it begins with, by the files of the feed, what the words ask for, and the service that was
  -- loaded; or the line by which it refuses what it finds behind the feed
  pub begins : Files → Asked → ServiceState → Result B (List ℕ)
  -- the lines by which it ever refuses
  pub Refuses : List ℕ → Type 0
  -- what it writes
  pub output : Output B

-- it begins with the service that was loaded, refuses nothing behind the feed, and writes this
abbrev pub service_task : Output ServiceState → Task ServiceState
service_task o = record { begins = λ told asked t. Ok t; Refuses = λ line. ⊥; output = o }

-- what `times` writes: a reply to each line, and then the table of all times
abbrev pub times_output : Output ServiceState
times_output = record {
  IsWhole = λ t. IsOutput t.network t.names t.state;
  AreReplies = λ t lines bytes. AreReplies t.network t.names t.state [] lines bytes;
}

-- what `serve` writes: window after window, a reply to each line. Every query is answered in the
-- state after a beginning of the accepted messages, which has all of earlier windows and all that
-- the same client was shown before (`IsQueryReply` and `AreServed` in query_crew). To the first
-- lines of an input the replies are those to their whole windows
abbrev pub served_output : Output ServiceState
served_output = record {
  IsWhole = λ t. IsServed t.network t.names t.state;
  AreReplies = λ t. AreWholeWindowsServed t.network t.names t.state;
}
