-- No note and no viewer counts more than was posted.
use Rattle.std.proofs.Common.{◌≡◌, ℕ, ◌+◌, ◌≤◌, ◌<◌, true, List, [], ◌∷◌, ◌++◌, length, fold, arith, length-append}
use Rattle.std.proofs.lemmas.Bool.Decides.{nat_tests}
use Rattle.std.proofs.lemmas.List.Elements.{All-nil, All-push, All-set, All-replicate, All-weaker}
use Rattle.std.proofs.Math.Nat.{max-le}
use Rattle.snapshot_board.specs.Boards.{BoardState}
use Rattle.snapshot_board.specs.Machines.{at_opening, newcomer_counts, is_step, after_event}
use Rattle.snapshot_board.specs.Runs.{IsWithin, CountsWithin}
use Rattle.snapshot_board.specs.declared.event.Event.{Event}
use Rattle.snapshot_board.specs.declared.event.Event.TheVariants.{Post, Look, Tell, Learn}
use Rattle.snapshot_board.proofs.RunLemmas.{IsRun, look-step}

pub opening-within : {M : Type 0} (viewers : ℕ) → IsWithin (at_opening {M = M} viewers)
opening-within viewers = record {
  notes = All-nil (λ n. n ≤ 0);
  viewers = All-replicate (CountsWithin 0) viewers newcomer_counts (omega arith, omega arith);
}

learn-there : {M : Type 0} (s : BoardState M) (v note : ℕ) → is_step s (Learn v note) ≡ true → (v < length s.viewers) × (note < length s.notes)
learn-there s v note is = grind (arith, nat_tests)

step-within : {M : Type 0} (s : BoardState M) (e : Event M) → is_step s e ≡ true → IsWithin s → IsWithin (after_event s e)
step-within s (Post m) is within =
    let posts = length s.posted in
    let n : length (s.posted ++ m ∷ []) ≡ posts + 1 = length-append s.posted (m ∷ []) in
    record {
      notes = All-weaker (λ n. n ≤ posts) (λ n. n ≤ length (s.posted ++ m ∷ [])) (λ k h. omega arith) s.notes within.notes;
      viewers = All-weaker (CountsWithin posts)
          (CountsWithin (length (s.posted ++ m ∷ []))) (λ c h. (omega (arith, h.0), omega (arith, h.1))) s.viewers within.viewers;
    }
step-within s (Look v count) is within =
    let k = look-step s v count is in
    let here = within.viewers v newcomer_counts k.there in
    record {
      notes = within.notes;
      viewers = All-set (CountsWithin (length s.posted)) s.viewers v _ (k.posted, here.1) within.viewers;
    }
step-within s Tell is within = record {
  notes = All-push (λ n. n ≤ length s.posted) s.notes (length s.posted) within.notes (omega arith);
  viewers = within.viewers;
}
step-within s (Learn v note) is within =
    let there = learn-there s v note is in
    let here = within.viewers v newcomer_counts there.0 in
    record {
      notes = within.notes;
      viewers = All-set (CountsWithin (length s.posted)) s.viewers v _ (here.0, max-le here.1 (within.notes note 0 there.1)) within.viewers;
    }

pub run-within : {M : Type 0} (s : BoardState M) (es : List (Event M)) → IsRun s es → IsWithin s → IsWithin (fold after_event s es)
run-within s [] run within = within
run-within s (e ∷ es) run within = run-within (after_event s e) es run.1 (step-within s e run.0 within)
