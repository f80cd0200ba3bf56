-- What `follow` begins with is what was loaded.
use Rattle.std.proofs.Common.{◌≡◌, ◌∙◌, ℕ, List, Option, sym, ap, subst}
use Rattle.command_words.specs.Words.{Asked}
use Rattle.delay_model.specs.declared.network.Network.{Network}
use Rattle.delay_model.specs.declared.state.State.{State}
use Rattle.delay_report.specs.Table.{table}
use Rattle.followed_input.specs.FollowedJournals.{IsRefusedSoFar, IsTimetableAt}
use Rattle.gtfs_tables.specs.Feeds.{Files}
use Rattle.information_service.proofs.Networks.{table-same}
use Rattle.information_service.specs.Networks.{IsSame, over}
use Rattle.information_service.specs.ServiceState.{ServiceState}
use Rattle.journal_lines.specs.Lines.{text_of_head}
use Rattle.journal_replay.proofs.Networks.{bytes-keep, bytes-over, read_over}
use Rattle.journal_replay.specs.Reading.{JournalProgress, nothing_read}
use Rattle.journal_replay.specs.Replayed.{refusal_at_end, replay_of}
use Rattle.journal_replay.specs.declared.refusal.JournalRefusal.{JournalRefusal}
use Rattle.schedule_build.specs.Directory.{Names}
use Rattle.timetable.specs.TimetableState.{TimetableState}
use Rattle.commands.specs.FollowTasks.{BeginsFollowing, FollowStart, read_from, table_behind}
use Rattle.commands.specs.OwnLoads.{head_of}
use Rattle.commands.specs.Tasks.{first_service}
use Rattle.commands.proofs.Tables.{IsStart, WasLoaded, same-service, same-start}

module _ {words : List (List ℕ)} {tables : Option Files} {a : Asked} {loaded : Network} {st : State} {names : Names} (was : WasLoaded words tables a loaded st names)
    {start : FollowStart} (begins : BeginsFollowing words tables start) where
  is-start : IsStart words tables a begins.network loaded begins.state begins.names begins.loads st names
  is-start = same-start was begins.network begins.state begins.names begins.loads

  same-header : start.header ≡ text_of_head (head_of a)
  same-header = begins.header_is ∙ ap (λ (x : Asked). text_of_head (head_of x)) is-start.asked

  -- the service is the one that was loaded, but for its network
  over-loaded : start.service ≡ over begins.network (first_service loaded names st)
  over-loaded = begins.service_is ∙ same-service is-start

  -- so far its journal is read as by what was loaded
  pub read-loaded : (bytes : List ℕ) → read_from start bytes ≡ read_over begins.network (replay_of (text_of_head (head_of a)) (first_service loaded names st) bytes)
  read-loaded bytes =
      let h : ServiceState = first_service loaded names st in
      ap (λ (header : List ℕ). replay_of header start.service bytes) same-header
      ∙ ap (λ (s : ServiceState). replay_of (text_of_head (head_of a)) s bytes) over-loaded
      ∙ bytes-over begins.network (text_of_head (head_of a)) (nothing_read h) bytes is-start.network

  -- over the network that the words ask for
  pub alike-loaded : (bytes : List ℕ) → IsSame begins.network (replay_of (text_of_head (head_of a)) (first_service loaded names st) bytes).service.network
  alike-loaded bytes =
      subst (IsSame begins.network) (sym (bytes-keep (text_of_head (head_of a)) (nothing_read (first_service loaded names st)) bytes)) is-start.network

-- refusals do not tell networks apart
pub over-refusal : (nw : Network) (p q : JournalProgress) → q ≡ read_over nw p → q.refusal ≡ p.refusal
over-refusal nw p q is = ap (λ (r : JournalProgress). r.refusal) is

pub over-at-end : (nw : Network) (p q : JournalProgress) → q ≡ read_over nw p → refusal_at_end q ≡ refusal_at_end p
over-at-end nw p q is = ap refusal_at_end is

pub over-so-far : (budget : ℕ) (left_now : Option (List ℕ)) (bytes : List ℕ) (why : JournalRefusal) (nw : Network) (p q : JournalProgress) → q ≡ read_over nw p
    → IsRefusedSoFar budget left_now bytes p why → IsRefusedSoFar budget left_now bytes q why
over-so-far budget left_now bytes why nw p q is so = subst (λ (r : JournalProgress). IsRefusedSoFar budget left_now bytes r why) (sym is) so

-- and a table does not where they are alike
pub over-table : (nw : Network) (p q : JournalProgress) → q ≡ read_over nw p → IsSame nw p.service.network → table_behind q ≡ table_behind p
over-table nw p q is same = ap table_behind is ∙ sym (table-same nw p.service.network same p.service.names p.service.state)

-- the table of a timetable that stands there
pub table-at : (p : JournalProgress) (t : TimetableState) (names : Names) → IsTimetableAt p.service t names → table t.network names t.state ≡ table_behind p
table-at p t names at =
    ap (λ (nw : Network). table nw names t.state) at.network
    ∙ ap (λ (ns : Names). table p.service.network ns t.state) at.names_are
    ∙ ap (λ (st : State). table p.service.network p.service.names st) at.state
