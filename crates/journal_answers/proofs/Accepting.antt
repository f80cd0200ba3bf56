-- A message is accepted exactly where one more is counted.
use Rattle.std.proofs.Common.{◌≡◌, ℕ, [], Option, Some, None, Result, Ok, Err, refl, arith, is_none, if◌then◌else◌}
use Rattle.delay_model.specs.declared.messages.Message.{Message}
use Rattle.delay_model.specs.declared.messages.Refusal.{Refusal}
use Rattle.delay_model.specs.Refusals.{refusal}
use Rattle.delay_model.specs.After.{accepted_message}
use Rattle.information_service.specs.ServiceState.{ServiceState, after_answer, after_message}
use Rattle.message_reader.specs.declared.wire.Wire.{Wire}
use Rattle.message_reader.specs.Resolved.{resolved}
use Rattle.journal_lines.specs.Lines.{text_of_message}
use Rattle.journal_answers.specs.JournaledLines.{accepted_text}

-- whether it is, by its answer
answered : (t : ServiceState) (w : Wire) (m : Message) (o : Option Refusal) → (n : ℕ)
    → n ≡ (after_answer t w m o).count
    → (n ≡ t.count → accepted_text w (if is_none o then Some m else None) ≡ [])
    × (¬ (n ≡ t.count) → accepted_text w (if is_none o then Some m else None) ≡ text_of_message w)
answered t w m None n is = (λ same. absurd (omega (arith, is, same)), λ other. refl)
answered t w m (Some r) n is = (λ same. refl, λ other. absurd (other is))

counted : (t : ServiceState) (w : Wire) (read : Result Message Refusal) (n : ℕ)
    → n ≡ (after_message t w read).count → (n ≡ t.count → accepted_text w (accepted_message t.network t.state read) ≡ [])
    × (¬ (n ≡ t.count) → accepted_text w (accepted_message t.network t.state read) ≡ text_of_message w)
counted t w (Ok m) n is = answered t w m (refusal t.network t.state m) n is
counted t w (Err r) n is = (λ same. refl, λ other. absurd (other is))

pub not-counted : (t : ServiceState) (w : Wire) (n : ℕ) → n ≡ (after_message t w (resolved t.names w)).count
    → n ≡ t.count → accepted_text w (accepted_message t.network t.state (resolved t.names w)) ≡ []
not-counted t w n is same = (counted t w (resolved t.names w) n is).0 same

pub one-counted : (t : ServiceState) (w : Wire) (n : ℕ)
    → n ≡ (after_message t w (resolved t.names w)).count → ¬ (n ≡ t.count) → accepted_text w (accepted_message t.network t.state (resolved t.names w)) ≡ text_of_message w
one-counted t w n is other = (counted t w (resolved t.names w) n is).1 other
