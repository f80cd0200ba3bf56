-- Where the sums over replies are the same in every run.
use Rattle.std.specs.Prelude.{◌≡◌, ◌⊎◌, List, [], All, Bool, true, false, Result, Ok, Err}
use Rattle.std.specs.List.{list_any}
use Rattle.delay_model.specs.declared.network.Network.{Network}
use Rattle.delay_model.specs.declared.state.State.{State}
use Rattle.information_service.specs.Lines.{said_by, messages_of}
use Rattle.message_reader.specs.declared.bad_line.BadLine.{BadLine}
use Rattle.message_reader.specs.declared.wire.Line.{Line as Spoken}
use Rattle.message_reader.specs.declared.wire.Line.TheVariants as says
use Rattle.mt_io.specs.Lines.{Line}
use Rattle.query_crew.specs.Windows.{windows_of}
use Rattle.window_service.specs.declared.sums.ReplySums.{ReplySums}
use Rattle.schedule_build.specs.Directory.{Names}
use Rattle.window_service.specs.Summed.{AreSummed}

-- a query is said
abbrev pub says_query : Result Spoken BadLine → Bool
says_query (Ok (says.Message w)) = false
says_query (Ok (says.Query q)) = true
says_query (Ok says.Flush) = false
says_query (Err b) = false

-- the line is a query
abbrev pub is_query : Line → Bool
is_query x = says_query (said_by x)

-- the lines have no query, or no message
abbrev pub AreApart : List Line → Type 0
AreApart lines = (list_any is_query lines ≡ false) ⊎ (messages_of lines ≡ [])

-- where no query shares its window with a message, any two outputs have the same sums
abbrev pub SumsAreTheSame : Type 0
SumsAreTheSame = (nw : Network) (names : Names) (st : State) (lines : List Line) (a b : ReplySums)
    → All AreApart (windows_of lines) → AreSummed nw names st lines a
    → AreSummed nw names st lines b → a ≡ b
