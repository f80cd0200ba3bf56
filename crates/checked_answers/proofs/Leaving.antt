-- A line leaves the service as what it says to `check` does.
use Rattle.std.proofs.Common.{◌≡◌, ◌∙◌, ◌≤◌, ◌+◌, ℕ, List, Bool, true, false, Option, None, Some, Result, Ok, Err, ap, arith, codes, refl, sym}
use Rattle.std.specs.Bool.{◌==◌}
use Rattle.std.specs.Prelude.{◌||◌}
use Rattle.std.specs.Result.{OnOk}
use Rattle.checked_answers.specs.CheckedLines.{after_checked}
use Rattle.delay_model.specs.Refusals.{refusal}
use Rattle.delay_model.specs.declared.messages.Message.{Message}
use Rattle.delay_model.specs.declared.messages.Refusal.{Refusal}
use Rattle.information_service.specs.ServiceState.{ServiceState, after_answer, after_line, after_message, after_said}
use Rattle.message_reader.proofs.ClaimLemmas.{line-bad, lines-same}
use Rattle.message_reader.specs.Chain.{◌>>=◌, need, unless}
use Rattle.message_reader.specs.CheckLines.{as_check_line, check_line_of, check_said, claim_said, is_claim, is_claim_in}
use Rattle.message_reader.specs.Claims.{claim_of}
use Rattle.message_reader.specs.Fields.{number_at}
use Rattle.message_reader.specs.Lines.{line_of, value_of}
use Rattle.message_reader.specs.Resolved.{resolved}
use Rattle.message_reader.specs.declared.bad_line.BadLine.TheVariants.{Shape}
use Rattle.message_reader.specs.declared.bad_line.BadLine.{BadLine}
use Rattle.message_reader.specs.declared.check_lines.CheckLine.TheVariants as checks
use Rattle.message_reader.specs.declared.check_lines.CheckLine.{CheckLine}
use Rattle.message_reader.specs.declared.claims.Claim.{Claim}
use Rattle.message_reader.specs.declared.wire.Line.TheVariants.{Message as Says, Query as Asks, Flush}
use Rattle.message_reader.specs.declared.wire.Line.{Line as Spoken}
use Rattle.message_reader.specs.declared.wire.Wire.{Wire}
use Rattle.mt_io.specs.Lines.{short}
use Rattle.schedule_build.specs.Directory.{Names}
use Rattle.serde_json.specs.Data.{Data}

-- what says a claim, or nothing, leaves the service as it is
keeps-by : {A : Type 0} (t : ServiceState) (x : Result A BadLine) (next : A → Result CheckLine BadLine) → ((a : A) → after_checked t (next a) ≡ t) → after_checked t (x >>= next) ≡ t
keeps-by t (Ok a) next keeps = keeps a
keeps-by t (Err bad) next keeps = refl

claim-keeps : (t : ServiceState) (names : Names) (d : Data) → after_checked t (claim_said names d) ≡ t
unfolding claim_said
claim-keeps t names d =
    let version : Result ℕ BadLine = need Shape (number_at (codes "v") d) in
    let known : ℕ → Result (Unit {0}) BadLine = λ v. unless ((v == 1) || (v == 2)) Shape in
    let last : Unit {0} → Result CheckLine BadLine = λ u. claim_of names d >>= λ claim. Ok (checks.Claim claim) in
    keeps-by {A = ℕ} t version (λ v. known v >>= last)
    (λ v. keeps-by {A = Unit {0}} t (known v) last (λ u. keeps-by {A = Claim} t (claim_of names d) (λ claim. Ok (checks.Claim claim)) (λ claim. refl)))

chosen-keeps : (t : ServiceState) (names : Names) (d : Data) → is_claim d ≡ true → after_checked t (check_said names d) ≡ t
unfolding check_said
chosen-keeps t names d is = rw is (claim-keeps t names d)

value-keeps : (t : ServiceState) (names : Names) (value : Result Data BadLine) → is_claim_in value ≡ true → after_checked t (value >>= check_said names) ≡ t
value-keeps t names (Ok d) is = chosen-keeps t names d is
value-keeps t names (Err bad) is = refl

line-keeps-claim : (t : ServiceState) (bytes : List ℕ) → is_claim_in (value_of bytes) ≡ true → after_checked t (check_line_of t.names bytes) ≡ t
unfolding check_line_of
line-keeps-claim t bytes is = value-keeps t t.names (value_of bytes) is

as-said : (t : ServiceState) (said : Result Spoken BadLine) → after_checked t (as_check_line said) ≡ after_said t said
as-said t (Ok line) = refl
as-said t (Err bad) = refl

leaves-by : (t : ServiceState) (bytes : List ℕ) (is : Bool) → is_claim_in (value_of bytes) ≡ is → after_line t (short bytes) ≡ after_checked t (check_line_of t.names bytes)
leaves-by t bytes true is = ap (after_said t) (line-bad bytes is) ∙ sym (line-keeps-claim t bytes is)
leaves-by t bytes false is = sym (ap (after_checked t) (lines-same t.names bytes is) ∙ as-said t (line_of bytes))

pub leaves-as : (t : ServiceState) (bytes : List ℕ) → after_line t (short bytes) ≡ after_checked t (check_line_of t.names bytes)
leaves-as t bytes = leaves-by t bytes (is_claim_in (value_of bytes)) refl

-- the count of accepted messages grows by one at most
few-answer : (t : ServiceState) (w : Wire) (m : Message) (o : Option Refusal) → (after_answer t w m o).count ≤ t.count + 1
few-answer t w m None = omega arith
few-answer t w m (Some r) = omega arith

few-message : (t : ServiceState) (w : Wire) (read : Result Message Refusal) → (after_message t w read).count ≤ t.count + 1
few-message t w (Ok m) = few-answer t w m (refusal t.network t.state m)
few-message t w (Err r) = omega arith

pub few-said : (t : ServiceState) (said : Spoken) → (after_said t (Ok said)).count ≤ t.count + 1
few-said t (Says w) = few-message t w (resolved t.names w)
few-said t (Asks q) = omega arith
few-said t Flush = omega arith

-- a fact that holds where there is a value leads to another one
pub on-ok : {A E P Q : Type 0} (r : Result A E) → (P → Q) → OnOk r P → OnOk r Q
on-ok (Ok x) next p = next p
on-ok (Err e) next p = p

pub on-any : {A E Q : Type 0} (r : Result A E) → Q → OnOk r Q
on-any (Ok x) q = q
on-any (Err e) q = tt
