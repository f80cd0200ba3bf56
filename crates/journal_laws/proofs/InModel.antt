-- The messages that `journal` writes are the accepted messages of the input, and lead where these lead.
use Rattle.std.proofs.Common.{◌≡◌, ℕ, List, [], ◌∷◌, ◌++◌, Option, Some, None, Result, Ok, Err, refl, sym, ap, ◌∙◌, append_assoc, append-nil, is_none, if◌then◌else◌}
use Rattle.std.specs.List.{cons_option}
use Rattle.delay_model.specs.After.{accepted, accepted_message}
use Rattle.delay_model.specs.Refusals.{refusal}
use Rattle.delay_model.specs.declared.messages.Message.{Message}
use Rattle.delay_model.specs.declared.messages.Refusal.{Refusal}
use Rattle.delay_model.specs.declared.network.Network.{Network}
use Rattle.delay_model.specs.declared.state.State.{State}
use Rattle.information_service.specs.Lines.{accepted_of, by_names, messages_of, said_by}
use Rattle.information_service.specs.ServiceState.{ServiceState, after_answer, after_line, after_message, after_said, service_after}
use Rattle.information_service.proofs.OneMore.{line-after}
use Rattle.message_reader.specs.Lines.{message_in}
use Rattle.message_reader.specs.Resolved.{resolved}
use Rattle.message_reader.specs.declared.bad_line.BadLine.{BadLine}
use Rattle.message_reader.specs.declared.wire.Line.{Line as Spoken}
use Rattle.message_reader.specs.declared.wire.Line.TheVariants.{Message as Says, Query as Asks, Flush}
use Rattle.message_reader.specs.declared.wire.Wire.{Wire}
use Rattle.mt_io.specs.Lines.{Line}
use Rattle.information_service.proofs.Words.{Names}
use Rattle.journal_replay.specs.Journals.{messages_in}
use Rattle.journal_replay.specs.Reading.{accepted_wire, after_wire}
use Rattle.journal_laws.specs.Journaled.{accepted_wires, after_lines, in_front, said_in_front}

-- the accepted messages among these, in the timetable of a service
abbrev from : ServiceState → List Wire → List Message
from t ws = accepted t.network by_names t.state t.names ws

-- ---- one line

-- by how its message is answered
answer-from : (t : ServiceState) (w : Wire) (m : Message) (ws all : List Wire) (o : Option Refusal) → accepted_wire t w ≡ (if is_none o then Some m else None)
    → messages_in (after_answer t w m o) ws ≡ from (after_answer t w m o) all → after_wire t w ≡ after_answer t w m o
    → messages_in t (in_front w (if is_none o then Some m else None) ws) ≡ from t (w ∷ all)
answer-from t w m ws all None is same leads = rw is (ap (λ (s : ServiceState). m ∷ messages_in s ws) leads ∙ ap (λ (l : List Message). m ∷ l) same)
answer-from t w m ws all (Some r) is same leads = rw is same

message-from : (t : ServiceState) (w : Wire) (ws all : List Wire) (read : Result Message Refusal) → accepted_wire t w ≡ accepted_message t.network t.state read
    → messages_in (after_message t w read) ws ≡ from (after_message t w read) all → after_wire t w ≡ after_message t w read
    → messages_in t (in_front w (accepted_message t.network t.state read) ws) ≡ from t (w ∷ all)
message-from t w ws all (Ok m) is same leads = answer-from t w m ws all (refusal t.network t.state m) is same leads
message-from t w ws all (Err r) is same leads = rw is same

said-from : (t : ServiceState) (said : Result Spoken BadLine) (ws all : List Wire) → messages_in (after_said t said) ws ≡ from (after_said t said) all
    → messages_in t (said_in_front t said ws) ≡ from t (cons_option (message_in said) all)
said-from t (Ok (Says w)) ws all same = message-from t w ws all (resolved t.names w) refl same refl
said-from t (Ok (Asks q)) ws all same = same
said-from t (Ok Flush) ws all same = same
said-from t (Err bad) ws all same = same

-- ---- the lines

pub numbers-agree : (t : ServiceState) (lines : List Line) → messages_in t (accepted_wires t lines) ≡ accepted_of t.network t.names t.state lines
numbers-agree t [] = refl
numbers-agree t (x ∷ xs) = said-from t (said_by x) (accepted_wires (after_line t x) xs) (messages_of xs) (numbers-agree (after_line t x) xs)

lines-behind : (nw : Network) (names : Names) (st : State) (before lines : List Line) → after_lines (service_after nw names st before) lines ≡ service_after nw names st (before ++ lines)
lines-behind nw names st before [] = ap (service_after nw names st) (sym (append-nil before))
lines-behind nw names st before (x ∷ xs) =
    ap (λ (t : ServiceState). after_lines t xs) (line-after nw names st before x)
    ∙ lines-behind nw names st (before ++ x ∷ []) xs
    ∙ ap (service_after nw names st) (append_assoc before (x ∷ []) xs)

pub services-agree : (t : ServiceState) (lines : List Line) → t.count ≡ 0 → after_lines t lines ≡ service_after t.network t.names t.state lines
services-agree t lines none =
    let first : t ≡ service_after t.network t.names t.state [] = ap (λ (n : ℕ). record { network = t.network; state = t.state; count = n; names = t.names }) none in
    ap (λ (s : ServiceState). after_lines s lines) first ∙ lines-behind t.network t.names t.state [] lines
