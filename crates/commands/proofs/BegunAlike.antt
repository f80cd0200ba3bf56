-- What commands begin with is the same over networks that are alike, and has the network that was
-- loaded.
use Rattle.std.proofs.Common.{◌≡◌, ◌∙◌, ℕ, List, Option, Some, None, Result, Ok, ap, refl}
use Rattle.command_words.specs.Words.{Asked}
use Rattle.delay_model.specs.declared.network.Network.{Network}
use Rattle.information_service.specs.Networks.{IsSame, over}
use Rattle.information_service.specs.ServiceState.{ServiceState}
use Rattle.journal_lines.specs.Lines.{text_of_head}
use Rattle.journal_replay.specs.Reading.{JournalProgress, after_bytes, nothing_read}
use Rattle.journal_replay.specs.Replayed.{refusal_at_end}
use Rattle.journal_replay.specs.declared.refusal.JournalRefusal.{JournalRefusal}
use Rattle.journal_replay.proofs.Networks.{bytes-keep, bytes-over, read_over}
use Rattle.commands.specs.LineTasks.{IsBegunAlike, Start, begun_over}
use Rattle.commands.specs.OwnLoads.{head_of, journal_behind, keeping, restarted, restarted_at, restarted_by}

-- ---- those that keep something by the words alone

abbrev begun : {C : Type 0} → Start C → Result (Start C) (List ℕ)
begun s = Ok s

same-network : {C : Type 0} (t : ServiceState) (kept : C) (s : Start C) → begun (record { service = t; kept = kept }) ≡ Ok s → s.service.network ≡ t.network
same-network t kept s is = cc

pub keeping-alike : {C : Type 0} (kept : Asked → C) → IsBegunAlike (keeping kept)
keeping-alike kept = record {
  alike = λ nw asked table t same. refl;
  keeps = λ asked table t s is. same-network t (kept asked) s is;
}

-- ---- `restart`

by-over : (nw : Network) (p : JournalProgress) (o : Option JournalRefusal) → restarted_by (read_over nw p) o ≡ begun_over nw (restarted_by p o)
by-over nw p None = refl
by-over nw p (Some why) = refl

by-keeps : (p : JournalProgress) (o : Option JournalRefusal) (s : Start (Unit {0})) → restarted_by p o ≡ Ok s → s.service.network ≡ p.service.network
by-keeps p None s is = same-network p.service tt s is
by-keeps p (Some why) s is = absurd cc

restarted-over : (nw : Network) (asked : Asked) (table : Option (List ℕ)) (t : ServiceState) → IsSame nw t.network → restarted asked table (over nw t) ≡ begun_over nw (restarted asked table t)
restarted-over nw asked None t same = refl
restarted-over nw asked (Some bytes) t same =
    let header = text_of_head (head_of asked) in
    let p = after_bytes header (nothing_read t) bytes in
    ap restarted_at (bytes-over nw header (nothing_read t) bytes same) ∙ by-over nw p (refusal_at_end p)

restarted-keeps : (asked : Asked) (table : Option (List ℕ)) (t : ServiceState) (s : Start (Unit {0})) → restarted asked table t ≡ Ok s → s.service.network ≡ t.network
restarted-keeps asked None t s is = absurd cc
restarted-keeps asked (Some bytes) t s is =
    let header = text_of_head (head_of asked) in
    let p = after_bytes header (nothing_read t) bytes in
    by-keeps p (refusal_at_end p) s is ∙ bytes-keep header (nothing_read t) bytes

pub journal-alike : IsBegunAlike journal_behind
journal-alike = record { alike = λ nw asked table t same. restarted-over nw asked table t same; keeps = λ asked table t s is. restarted-keeps asked table t s is }
