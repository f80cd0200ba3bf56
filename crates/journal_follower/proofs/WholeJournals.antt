-- A follower of a whole journal.
use Rattle.std.proofs.Common.{◌≡◌, ℕ, ◌+◌, ◌-◌, [], List, take, Option, refl, sym, ◌∙◌, ap, subst}
use Rattle.delay_model.specs.declared.messages.Message.{Message}
use Rattle.information_service.specs.ServiceState.{ServiceState}
use Rattle.journal_replay.specs.Journals.{IsReadSoFar, after_wires, messages_in}
use Rattle.journal_replay.specs.Reading.{JournalProgress, after_bytes, nothing_read}
use Rattle.journal_replay.specs.ReaderStates.{HasRead, IsAt, ReaderState}
use Rattle.message_reader.specs.declared.wire.Wire.{Wire}
use Rattle.query_crew.specs.Posting.{StandsAt}
use Rattle.timetable.specs.TimetableState.{TimetableState}
use Rattle.journal_follower.specs.Boards.{StandsAs}
use Rattle.journal_follower.specs.Following.{FollowerState, HasFollowed, new_reader}

-- where the reader stands at this place of the journal, and the board as a service there
followed-at : (o : Option TimetableState) (s : ServiceState) (ws : List Wire) (bytes : List ℕ) (now : FollowerState (List Message)) (p : JournalProgress) → IsReadSoFar s ws bytes p
    → IsAt (StandsAs o) now.board now.reader p → HasFollowed o s ws bytes now
followed-at o s ws bytes now p so_far at =
    let lines : p.lines ≡ now.reader.lines = ap (λ (q : JournalProgress). q.lines) at.reads in
    let refusal : p.refusal ≡ now.reader.refusal = ap (λ (q : JournalProgress). q.refusal) at.reads in
    record {
      not_refused = sym refusal ∙ so_far.not_refused;
      lines = so_far.lines ∙ ap (λ (n : ℕ). n + 1) lines;
      posted = at.stands.0 ∙ so_far.messages ∙ ap (λ (n : ℕ). messages_in s (take (n - 1) ws)) lines;
      stands = subst (λ (t : ServiceState). StandsAt o now.board.posted now.board.names t) (so_far.service ∙ ap (λ (n : ℕ). after_wires s (take (n - 1) ws)) lines) at.stands.1;
    }

-- a new reader of a journal with this header, beside a board to which nothing was posted, stands
-- behind a beginning that was read of it
pub followed : (o : Option TimetableState) (header : List ℕ) (s : ServiceState) (ws : List Wire) (bytes : List ℕ) (begun now : FollowerState (List Message))
    → IsReadSoFar s ws bytes (after_bytes header (nothing_read s) bytes) → begun.reader ≡ new_reader header → StandsAs o begun.board s []
    → HasRead (StandsAs o) begun.board begun.reader bytes now.board now.reader → HasFollowed o s ws bytes now
followed o header s ws bytes begun now so_far new stands read =
    let begins : IsAt (StandsAs o) begun.board begun.reader (nothing_read s) = record { reads = rw new refl; stands = stands } in
    let at = read (nothing_read s) begins in
    let same : begun.reader.header ≡ header = ap (λ (r : ReaderState). r.header) new in
    followed-at o s ws bytes now (after_bytes header (nothing_read s) bytes) so_far (subst (λ (h : List ℕ). IsAt (StandsAs o) now.board now.reader (after_bytes h (nothing_read s) bytes)) same at)
