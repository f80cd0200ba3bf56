-- The numbers of lines and of messages are within the number of bytes that may be taken.
use Rattle.window_service.proofs.Words.{◌≡◌, ◌∙◌, ◌≤◌, ◌+◌, ◌∷◌, ◌++◌, ℕ, List, [], length, Option, Some, true, refl, ap, arith, length-append, Message, Network, State, lines_of, service_after, Line, Reader, GivesNext, Names, TimetableState, StandsAt, ServiceState}
use Rattle.std.specs.Prelude.{suc, None, All, ◌<◌, ◌^◌}
use Rattle.std.specs.Option.{option_map_or}
use Rattle.delay_model.specs.After.{accepted, accepted_message}
use Rattle.delay_model.specs.Effect.{effect}
use Rattle.information_service.specs.Lines.{accepted_of, by_names, messages_of, names_with, said_by}
use Rattle.message_reader.specs.declared.wire.Wire.{Wire}
use Rattle.message_reader.specs.Lines.{message_in}
use Rattle.message_reader.specs.Resolved.{resolved}
use Rattle.mt_io.proofs.FewLines.{few_answered}
use Rattle.query_crew.specs.declared.window_line.WindowLine.{WindowLine}
use Rattle.query_crew.specs.Posted.{timetable_after}
use Rattle.query_crew.specs.Posting.{CanBeRun, HasService}
use Rattle.query_crew.specs.WindowLines.{IsWindowLine, window_line, window_lines}
use Rattle.std.proofs.lemmas.List.{length-map}
use Rattle.std.proofs.lemmas.Option.{none-some}
use Rattle.window_service.proofs.Answered.{AreRead, all-taken}

-- no more messages are accepted than there are
with-one : {X : Type 0} (o : Option X) (after : X → List X) (none : List X) (n : ℕ) → ((x : X) → length (after x) ≤ n) → length none ≤ n → length (option_map_or (λ x. x ∷ after x) o none) ≤ suc n
with-one None after none n more few = omega (arith, few)
with-one (Some x) after none n more few = omega (arith, more x)

few-accepted : (nw : Network) (names : Names) (st : State) (ws : List Wire) → length (accepted nw by_names st names ws) ≤ length ws
few-accepted nw names st [] = omega arith
few-accepted nw names st (w ∷ ws) =
    with-one (accepted_message nw st (resolved names w)) (λ m. accepted nw by_names (effect st m) (names_with names w) ws) (accepted nw by_names st names ws) (length ws)
    (λ m. few-accepted nw (names_with names w) (effect st m) ws) (few-accepted nw names st ws)

few-said : (o : Option Wire) (x : Line) (xs : List Line) → message_in (said_by x) ≡ o → length (messages_of xs) ≤ length xs → length (messages_of (x ∷ xs)) ≤ suc (length xs)
few-said None x xs is few = rw is (omega (arith, few))
few-said (Some w) x xs is few = rw is (omega (arith, few))

few-messages : (lines : List Line) → length (messages_of lines) ≤ length lines
few-messages [] = omega arith
few-messages (x ∷ xs) = few-said (message_in (said_by x)) x xs refl (few-messages xs)

-- no more were posted than there were lines
pub few-posted : {o : Option TimetableState} {posted : List Message} {names_now : Names} (nw : Network) (names : Names) (st : State) (lines : List Line)
    → StandsAt o posted names_now (service_after nw names st lines) → length posted ≤ length lines
few-posted {posted = posted} nw names st lines stands =
    let count : length (accepted_of nw names st lines) ≡ length posted = ap (λ (s : ServiceState). s.count) stands.is in
    omega (arith, count, few-accepted nw names st (messages_of lines), few-messages lines)

-- the lines of a window are numbered within the number of bytes that were taken
pub few-lines : {mid now : Reader} {left left_mid left_now : Option (List ℕ)} {count : ℕ} {bytes : List ℕ} {ws : List (List Line)} {w : List Line}
    → AreRead mid left left_mid count bytes ws → GivesNext mid now left_mid left_now w → (mid.ended ≡ true → left_now ≡ left_mid) → count + length w ≤ now.budget
few-lines {now = now} {ws = ws} {w = w} read next same =
    let all = all-taken read next same in
    omega (arith, read.counted, length-append (lines_of ws) w, few_answered now all.0 (lines_of ws ++ w) all.1.lines_so_far, all.1.within.taken)

-- a board on which something stands was opened
opened : (o : Option TimetableState) (posted : List Message) (t : TimetableState) → timetable_after o posted ≡ Some t → (first : TimetableState) × (o ≡ Some first)
opened None posted t is = absurd (none-some t is)
opened (Some first) posted t is = (first, refl)

-- a window can be run where what was read is within the number of bytes that may be taken
module _ {o : Option TimetableState} (names : Names) {posted : List Message}
    {names_now : Names} {mid now : Reader} {left left_mid left_now : Option (List ℕ)} {count : ℕ} {bytes : List ℕ} {ws : List (List Line)} {w : List Line}
    (read : AreRead mid left left_mid count bytes ws) (next : GivesNext mid now left_mid left_now w) (same : mid.ended ≡ true → left_now ≡ left_mid) where
  pub can-run : (lines : List WindowLine) → HasService o posted names_now → ((t : TimetableState) → o ≡ Some t → StandsAt o posted names_now (service_after t.network names t.state (lines_of ws)))
      → All IsWindowLine lines → lines ≡ window_lines names_now w → now.budget < 2 ^ 64 → CanBeRun o posted names_now count lines
  can-run lines board stands kept are budget =
      let few = few-lines read next same in
      let size : length lines ≡ length w = ap length are ∙ length-map w (λ x. window_line names_now (said_by x)) in
      let first = opened o posted board.1.timetable board.1.after in
      let posts = few-posted first.0.network names first.0.state (lines_of ws) (stands first.0 first.1) in
      record { board = board; kept = kept; numbers = omega (arith, few, size, budget); posts = omega (arith, few, size, budget, posts, read.counted) }
