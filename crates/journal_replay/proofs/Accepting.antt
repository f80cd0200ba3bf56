-- A service takes a message exactly where it counts one more.
use Rattle.std.proofs.Common.{◌≡◌, ◌≢◌, Bool, true, false, List, Option, Some, None, Result, Ok, Err, inl, inr, sym, ap, arith, is_none, if◌then◌else◌}
use Rattle.std.proofs.lemmas.Bool.{cases_Bool}
use Rattle.delay_model.specs.declared.messages.Message.{Message}
use Rattle.delay_model.specs.declared.messages.Refusal.{Refusal}
use Rattle.delay_model.specs.After.{accepted_message}
use Rattle.delay_model.specs.Refusals.{refusal}
use Rattle.information_service.specs.ServiceState.{ServiceState, after_answer, after_message}
use Rattle.message_reader.specs.declared.wire.Wire.{Wire}
use Rattle.message_reader.specs.Resolved.{resolved}
use Rattle.journal_replay.specs.Reading.{after_wire}
use Rattle.journal_replay.specs.Taking.{IsService, IsWireTaken, IsWireTakenAs}

module _ (s new : ServiceState) (w : Wire) (before : List Message) (taken : Bool)
    (grown : taken ≡ true → new.count ≢ s.count) (same : taken ≡ false → new.count ≡ s.count) (leaves : new ≡ after_wire s w) where
  none-taken : new ≡ s → IsWireTakenAs IsService s before w new taken None
  none-taken is = elim (cases_Bool taken) [
    | inl is_taken ↦ absurd (grown is_taken (ap (λ (t : ServiceState). t.count) is))
    | inr not_taken ↦ (not_taken, sym is)
  ]

  by-answer : (m : Message) (o : Option Refusal) → new ≡ after_answer s w m o → IsWireTakenAs IsService s before w new taken (if is_none o then Some m else None)
  by-answer m None is = elim (cases_Bool taken) [
    | inl is_taken ↦ (is_taken, sym leaves)
    | inr not_taken ↦ absurd (omega (arith, same not_taken, ap (λ (t : ServiceState). t.count) is))
  ]
  by-answer m (Some r) is = none-taken is

  by-message : (read : Result Message Refusal) → new ≡ after_message s w read → IsWireTakenAs IsService s before w new taken (accepted_message s.network s.state read)
  by-message (Ok m) is = by-answer m (refusal s.network s.state m) is
  by-message (Err r) is = none-taken is

  pub taken-by : IsWireTaken IsService s before w new taken
  taken-by = by-message (resolved s.names w) leaves
