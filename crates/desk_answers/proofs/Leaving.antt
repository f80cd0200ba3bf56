-- A line leaves the service as what it says to `desk` does.
use Rattle.std.proofs.Common.{◌≡◌, ◌∙◌, ◌≤◌, ◌+◌, ℕ, List, Bool, true, false, Option, None, Some, Result, Ok, Err, ap, arith, codes, refl, sym}
use Rattle.std.specs.Prelude.{◌||◌, if◌then◌else◌}
use Rattle.std.specs.Result.{OnOk}
use Rattle.delay_model.specs.Refusals.{refusal}
use Rattle.delay_model.specs.declared.messages.Message.{Message}
use Rattle.delay_model.specs.declared.messages.Refusal.{Refusal}
use Rattle.desk_lines.proofs.QuestionLemmas.{line-bad, lines-same}
use Rattle.desk_lines.specs.DeskLines.{as_desk_line, departures_said, desk_line_of, desk_said, event_said, has_type, has_version, is_question_in, line_said}
use Rattle.desk_lines.specs.Questions.{departures_of, event_of}
use Rattle.desk_lines.specs.declared.asked.WireDepartures.{WireDepartures}
use Rattle.desk_lines.specs.declared.asked.WireEvent.{WireEvent}
use Rattle.desk_lines.specs.declared.lines.DeskLine.TheVariants as desks
use Rattle.desk_lines.specs.declared.lines.DeskLine.{DeskLine}
use Rattle.information_service.specs.ServiceState.{ServiceState, after_answer, after_line, after_message, after_said}
use Rattle.message_reader.specs.Chain.{◌>>=◌, unless}
use Rattle.message_reader.specs.Lines.{line_of, value_of}
use Rattle.message_reader.specs.Resolved.{resolved}
use Rattle.message_reader.specs.declared.bad_line.BadLine.TheVariants.{Shape}
use Rattle.message_reader.specs.declared.bad_line.BadLine.{BadLine}
use Rattle.message_reader.specs.declared.wire.Line.TheVariants.{Message as Says, Query as Asks, Flush}
use Rattle.message_reader.specs.declared.wire.Line.{Line as Spoken}
use Rattle.message_reader.specs.declared.wire.Wire.{Wire}
use Rattle.mt_io.specs.Lines.{short}
use Rattle.serde_json.specs.Data.{Data}
use Rattle.desk_answers.specs.DeskOutput.{after_desk}

-- what asks a question, or says nothing, leaves the service as it is
keeps-by : {A : Type 0} (t : ServiceState) (x : Result A BadLine) (next : A → Result DeskLine BadLine) → ((a : A) → after_desk t (next a) ≡ t) → after_desk t (x >>= next) ≡ t
keeps-by t (Ok a) next keeps = keeps a
keeps-by t (Err bad) next keeps = refl

departures-keep : (t : ServiceState) (d : Data) → after_desk t (departures_said d) ≡ t
unfolding departures_said
departures-keep t d =
    keeps-by {A = Unit {0}} t (unless (has_version d) Shape) (λ u. departures_of d >>= λ asked. Ok (desks.Departures asked))
    (λ u. keeps-by {A = WireDepartures} t (departures_of d) (λ asked. Ok (desks.Departures asked)) (λ asked. refl))

event-keeps : (t : ServiceState) (d : Data) → after_desk t (event_said d) ≡ t
unfolding event_said
event-keeps t d =
    keeps-by {A = Unit {0}} t (unless (has_version d) Shape) (λ u. event_of d >>= λ asked. Ok (desks.Why asked))
    (λ u. keeps-by {A = WireEvent} t (event_of d) (λ asked. Ok (desks.Why asked)) (λ asked. refl))

chosen-keeps : (t : ServiceState) (d : Data) (departures why : Bool) → (departures || why) ≡ true
    → after_desk t (if departures then departures_said d else (if why then event_said d else line_said d)) ≡ t
chosen-keeps t d true why is = departures-keep t d
chosen-keeps t d false true is = event-keeps t d
chosen-keeps t d false false is = grind arith

value-keeps : (t : ServiceState) (value : Result Data BadLine) → is_question_in value ≡ true → after_desk t (value >>= desk_said) ≡ t
unfolding desk_said
value-keeps t (Ok d) is = chosen-keeps t d (has_type (codes "departures") d) (has_type (codes "why") d) is
value-keeps t (Err bad) is = refl

line-keeps-question : (t : ServiceState) (bytes : List ℕ) → is_question_in (value_of bytes) ≡ true → after_desk t (desk_line_of bytes) ≡ t
unfolding desk_line_of
line-keeps-question t bytes is = value-keeps t (value_of bytes) is

as-said : (t : ServiceState) (said : Result Spoken BadLine) → after_desk t (as_desk_line said) ≡ after_said t said
as-said t (Ok line) = refl
as-said t (Err bad) = refl

leaves-by : (t : ServiceState) (bytes : List ℕ) (is : Bool) → is_question_in (value_of bytes) ≡ is → after_line t (short bytes) ≡ after_desk t (desk_line_of bytes)
leaves-by t bytes true is = ap (after_said t) (line-bad bytes is) ∙ sym (line-keeps-question t bytes is)
leaves-by t bytes false is = sym (ap (after_desk t) (lines-same bytes is) ∙ as-said t (line_of bytes))

pub leaves-as : (t : ServiceState) (bytes : List ℕ) → after_line t (short bytes) ≡ after_desk t (desk_line_of bytes)
leaves-as t bytes = leaves-by t bytes (is_question_in (value_of bytes)) refl

-- the count of accepted messages grows by one at most
few-answer : (t : ServiceState) (w : Wire) (m : Message) (o : Option Refusal) → (after_answer t w m o).count ≤ t.count + 1
few-answer t w m None = omega arith
few-answer t w m (Some r) = omega arith

few-message : (t : ServiceState) (w : Wire) (read : Result Message Refusal) → (after_message t w read).count ≤ t.count + 1
few-message t w (Ok m) = few-answer t w m (refusal t.network t.state m)
few-message t w (Err r) = omega arith

pub few-said : (t : ServiceState) (said : Spoken) → (after_said t (Ok said)).count ≤ t.count + 1
few-said t (Says w) = few-message t w (resolved t.names w)
few-said t (Asks q) = omega arith
few-said t Flush = omega arith

-- a fact that holds where there is a value leads to another one
pub on-ok : {A E P Q : Type 0} (r : Result A E) → (P → Q) → OnOk r P → OnOk r Q
on-ok (Ok x) next p = next p
on-ok (Err e) next p = p

pub on-any : {A E Q : Type 0} (r : Result A E) → Q → OnOk r Q
on-any (Ok x) q = q
on-any (Err e) q = tt
