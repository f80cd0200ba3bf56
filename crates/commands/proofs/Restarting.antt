-- What `restart` makes of the journal that it reads.
use Rattle.std.proofs.Common.{◌≡◌, ◌∙◌, ℕ, List, Option, Some, None, Result, Err, ap, option_map, subst, sym}
use Rattle.command_words.specs.Words.{Asked}
use Rattle.information_service.specs.ServiceState.{ServiceState}
use Rattle.journal_lines.specs.declared.heads.Head.{Head}
use Rattle.journal_lines.specs.Lines.{text_of_head}
use Rattle.journal_replay.specs.Reading.{JournalProgress}
use Rattle.journal_replay.specs.Replayed.{IsReplayed, refusal_at_end, replay_of, replayed_by}
use Rattle.journal_replay.specs.declared.refusal.JournalRefusal.{JournalRefusal}
use Rattle.journal_replay.specs.declared.refusal.JournalRefusal.TheVariants as refusals
use Rattle.commands.specs.LineTasks.{Start}
use Rattle.commands.specs.Loading.{IsLoaded}
use Rattle.commands.specs.OwnLoads.{HasJournalLine, head_of, journal_line, restarted, restarted_by}
use Rattle.commands.specs.declared.loading.LoadFault.{LoadFault}
use Rattle.commands.specs.declared.loading.LoadFault.TheVariants as faults

-- a journal that is answered with a refusal is refused for it
refused-there : (p : JournalProgress) (o : Option JournalRefusal) (why : JournalRefusal) → replayed_by p o ≡ Err why → o ≡ Some why
refused-there p None why is = absurd cc
refused-there p (Some other) why is = cc

-- and the command refuses with its line
abbrev refused : List ℕ → Result (Start (Unit {0})) (List ℕ)
refused line = Err line

by-line : (p : JournalProgress) (why : JournalRefusal) (line : List ℕ) → replayed_by p (refusal_at_end p) ≡ Err why
    → line ≡ journal_line why → restarted_by p (refusal_at_end p) ≡ refused line
by-line p why line is own = ap (restarted_by p) (refused-there p (refusal_at_end p) why is) ∙ ap refused (sym own)

load-refused : (asked : Asked) (bytes : List ℕ) (t now : ServiceState) (why : JournalRefusal) (f : LoadFault) → IsReplayed (text_of_head (head_of asked)) t bytes now (Err why)
    → HasJournalLine why f → IsLoaded (restarted asked (Some bytes) t) now (Err f)
load-refused asked bytes t now refusals.Header (faults.Refused line) is own = by-line (replay_of (text_of_head (head_of asked)) t bytes) refusals.Header line.items is.0 own
load-refused asked bytes t now refusals.Header faults.OutOfMemory is own = tt
load-refused asked bytes t now (refusals.Line number) (faults.Refused line) is own = by-line (replay_of (text_of_head (head_of asked)) t bytes) (refusals.Line number) line.items is.0 own
load-refused asked bytes t now (refusals.Line number) faults.OutOfMemory is own = tt
load-refused asked bytes t now refusals.OutOfMemory (faults.Refused line) is own = absurd own
load-refused asked bytes t now refusals.OutOfMemory faults.OutOfMemory is own = tt

-- the same of a table, its bytes and a head as they are held
pub table-refused : {V : Type 0} (items : V → List ℕ) (asked : Asked) (table : Option V) (bytes : V) (head : Head) (slice : List ℕ) (t now : ServiceState) (why : JournalRefusal) (f : LoadFault)
    → table ≡ Some bytes → head ≡ head_of asked → slice ≡ items bytes → IsReplayed (text_of_head head) t slice now (Err why) → HasJournalLine why f
    → IsLoaded (restarted asked (option_map items table) t) now (Err f)
table-refused items asked table bytes head slice t now why f is same all read own =
    subst (λ (o : _). IsLoaded (restarted asked (option_map items o) t) now (Err f)) (sym is) (load-refused asked (items bytes) t now why f
    (subst (λ (h : Head). IsReplayed (text_of_head h) t (items bytes) now (Err why)) same (subst (λ (l : List ℕ). IsReplayed (text_of_head head) t l now (Err why)) all read)) own)
