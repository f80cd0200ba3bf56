-- The replies of `desk` to questions: the next departures of a station, and why an event is when it
-- is.
use Rattle.std.specs.Prelude.{◌≡◌, ℕ, List, [], ◌∷◌, Vec, Result, Ok, Err}
use Rattle.std.specs.declared.alloc.Global.{Global}
use Rattle.board_laws.specs.Boards.{board}
use Rattle.board_laws.specs.declared.rows.BoardRow.{BoardRow}
use Rattle.cause_laws.specs.Chains.{why}
use Rattle.cause_laws.specs.declared.causes.Link.{Link}
use Rattle.delay_model.specs.declared.messages.Refusal.{Refusal}
use Rattle.delay_model.specs.declared.messages.Refusal.TheVariants.{Unknown}
use Rattle.delay_model.specs.declared.network.Network.{Network}
use Rattle.delay_model.specs.declared.state.State.{State}
use Rattle.delay_report.specs.Replies.{text_of_reply}
use Rattle.delay_report.specs.declared.replies.Reply.TheVariants.{Bad, Refused}
use Rattle.desk_lines.specs.declared.resolved.AskedDepartures.{AskedDepartures}
use Rattle.desk_report.specs.Chains.{text_of_because}
use Rattle.desk_report.specs.Departures.{text_of_departures}
use Rattle.information_service.specs.ServiceState.{ServiceState}
use Rattle.message_reader.specs.declared.bad_line.BadLine.{BadLine}
use Rattle.mt_base.specs.declared.keys.Node.{Node}

-- these are the next departures of a station, in a state after so many accepted messages
abbrev pub is_board : Network → State → ℕ → AskedDepartures → Vec BoardRow Global → Type 0
is_board nw st count asked rows = rows.items ≡ board nw st asked.place asked.since asked.rows

-- this is the chain of the live event of a name, in a state after so many accepted messages; no link
-- where there is no such event
abbrev pub is_chain : Network → State → ℕ → Node → Vec Link Global → Type 0
is_chain nw st count event links = links.items ≡ why nw st event

-- the text of the reply to a question for departures by number
abbrev pub board_text : ServiceState → ℕ → AskedDepartures → List ℕ
board_text t line asked = text_of_departures t.names line t.count
    (board t.network t.state asked.place asked.since asked.rows)

-- the same, or that of the reply to one whose names make its line bad
abbrev pub departures_text : ServiceState → ℕ → Result AskedDepartures BadLine → List ℕ
departures_text t line (Ok asked) = board_text t line asked
departures_text t line (Err bad) = text_of_reply t.names (Bad line bad)

-- the text of the reply with this chain; an event that has none is not known
abbrev pub chain_text : ServiceState → ℕ → List Link → List ℕ
chain_text t line [] = text_of_reply t.names (Refused line Unknown)
chain_text t line (l ∷ ls) = text_of_because t.names line t.count (l ∷ ls)

-- the text of the reply to a question about an event by number
abbrev pub why_text : ServiceState → ℕ → Node → List ℕ
why_text t line event = chain_text t line (why t.network t.state event)

-- the same, or that of the reply to one whose names are refused
abbrev pub event_text : ServiceState → ℕ → Result Node Refusal → List ℕ
event_text t line (Ok event) = why_text t line event
event_text t line (Err refusal) = text_of_reply t.names (Refused line refusal)
