-- What a whole journal is read as.
use Rattle.std.specs.Prelude.{◌≡◌, ℕ, ◌-◌, List, length, nat_eq, not, if◌then◌else◌, Result, Ok, Err, Some, None}
use Rattle.std.specs.declared.option.Option.{Option}
use mathlib.Core.List.{IsPrefix}
use Rattle.information_service.specs.ServiceState.{ServiceState}
use Rattle.journal_replay.specs.Reading.{JournalProgress, after_bytes, nothing_read}
use Rattle.journal_replay.specs.declared.refusal.JournalRefusal.{JournalRefusal}
use Rattle.journal_replay.specs.declared.refusal.JournalRefusal.TheVariants.{Header, Line, OutOfMemory}
use Rattle.journal_replay.specs.declared.replaying.Replayed.{Replayed}

-- why a journal is refused that is read so far and ends there, if it is: it also has to have a
-- whole line
abbrev pub refused_by : ℕ → Option JournalRefusal → Option JournalRefusal
refused_by lines (Some why) = Some why
refused_by lines None = if nat_eq lines 0 then Some Header else None

abbrev pub refusal_at_end : JournalProgress → Option JournalRefusal
refusal_at_end p = refused_by p.lines p.refusal

-- what is answered of it: how many messages it has, and whether bytes stand behind its last line
abbrev pub replayed_by : JournalProgress → Option JournalRefusal → Result Replayed JournalRefusal
replayed_by p (Some why) = Err why
replayed_by p None = Ok (record { count = p.lines - 1; torn = not (nat_eq (length p.held) 0) })

abbrev pub replayed : JournalProgress → Result Replayed JournalRefusal
replayed p = replayed_by p (refusal_at_end p)

-- so far the journal is read whose bytes these are
abbrev pub replay_of : List ℕ → ServiceState → List ℕ → JournalProgress
replay_of header s bytes = after_bytes header (nothing_read s) bytes

-- this is answered of the journal, and the service stands behind what was read of it; or there was
-- no memory, and it stands behind a beginning of it
abbrev pub IsReplayed : List ℕ → ServiceState → List ℕ → ServiceState
    → Result Replayed JournalRefusal → Type 0
IsReplayed header s bytes now (Ok r) =
    (replayed (replay_of header s bytes) ≡ Ok r) × (now ≡ (replay_of header s bytes).service)
IsReplayed header s bytes now (Err Header) =
    (replayed (replay_of header s bytes) ≡ Err Header)
    × (now ≡ (replay_of header s bytes).service)
IsReplayed header s bytes now (Err (Line line)) =
    (replayed (replay_of header s bytes) ≡ Err (Line line))
    × (now ≡ (replay_of header s bytes).service)
IsReplayed header s bytes now (Err OutOfMemory) =
    (front : List ℕ) × IsPrefix front bytes × (now ≡ (replay_of header s front).service)
