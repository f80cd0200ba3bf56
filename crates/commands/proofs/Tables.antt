-- What the words and the feed give is one thing.
use Rattle.std.proofs.Common.{◌≡◌, ◌∙◌, ℕ, Bool, List, [], Option, Some, None, Result, Ok, Err, if◌then◌else◌, arith, refl, sym, ap, subst, true, false, inl, inr}
use Rattle.std.proofs.KnownBytes.{Appends-nil}
use Rattle.std.proofs.lemmas.Option.{none-some}
use Rattle.delay_model.specs.declared.network.Network.{Network}
use Rattle.delay_model.specs.declared.state.State.{State}
use Rattle.command_words.specs.Words.{Asked, asked_of}
use Rattle.gtfs_tables.specs.declared.refusals.FeedRefusal.{FeedRefusal}
use Rattle.feed_load.specs.Loaded.{loaded}
use Rattle.gtfs_tables.specs.Checks.{◌>>=◌}
use Rattle.gtfs_tables.specs.Feeds.{Files}
use Rattle.schedule_build.specs.Directory.{Names}
use Rattle.mt_base.specs.declared.tables.Tables.{Tables}
use Rattle.mt_io.specs.Lines.{Line, lines_of}
use Rattle.information_service.specs.Fronts.{AppendsAll, AppendsTakenFront}
use Rattle.information_service.specs.Answering.{LineOutput}
use Rattle.information_service.specs.Networks.{IsSame, IsWrittenAlike, over}
use Rattle.information_service.specs.ServiceState.{ServiceState}
use Rattle.information_service.proofs.Networks.{output-same, replies-same}
use Rattle.information_service.proofs.Fronts.{front_none}
use Rattle.information_service.proofs.WrittenAlike.{beginning-alike, whole-over}
use Rattle.mt_io.proofs.Gives.{consumes_none}
use Rattle.window_service.proofs.Networks.{served-same, whole-same}
use Rattle.window_service.proofs.Written.{nothing-served}
use Rattle.commands.specs.Beginnings.{IsBegun}
use Rattle.commands.specs.Feeds.{network, tables_in, asked_in}
use Rattle.commands.specs.LineTasks.{Behind, IsBegunAlike, Refuses, Start, begins_by, begun_over, is_long, line_output, line_task, long_line, table_among, unless_long}
use Rattle.commands.specs.Loading.{IsFetched}
use Rattle.commands.specs.declared.loading.Fetched.{Fetched}
use Rattle.commands.specs.Runs.{Begins, IsFeedRefused, IsLoadRefused, IsRefused, Loads, Refusal, SaysWhy, by_feed, by_command, line_of_refusal}
use Rattle.commands.specs.Tasks.{Output, Task, first_service, served_output, service_task, times_output}

-- the timetable that was loaded is the one that the words ask for
pub record IsStart (words : List (List ℕ)) (tables : Option Files) (a : Asked) (nw loaded : Network)
    (st : State) (names : Names) (loads : Loads words tables nw st names) (st_loaded : State)
    (names_loaded : Names) : Type 0 where
  pub asked : loads.asked ≡ a
  pub network : IsSame nw loaded
  pub state : st ≡ st_loaded
  pub named : names ≡ names_loaded

-- what was loaded for these words: the network, the state and the names of the timetable that their
-- feed holds, where it tells its tables
pub record WasLoaded (words : List (List ℕ)) (tables : Option Files) (a : Asked) (loaded : Network)
    (st : State) (names : Names) : Type 0 where
  pub asked : asked_of words ≡ Some a
  pub held : (told : Files) → tables ≡ Some told → asked_in told a ≡ Ok (st, names)
  pub same : (told : Files) (rows : Tables) → tables ≡ Some told → tables_in told a ≡ Ok rows → IsSame (network rows a.opts) loaded

pub was-loaded : {words : List (List ℕ)} {tables : Option Files} {a : Asked} {loaded : Network} {st : State} {names : Names}
    → asked_of words ≡ Some a → ((told : Files) → tables ≡ Some told → asked_in told a ≡ Ok (st, names))
    → ((told : Files) (rows : Tables) → tables ≡ Some told → tables_in told a ≡ Ok rows → IsSame (network rows a.opts) loaded) → WasLoaded words tables a loaded st names
was-loaded asked held same = record { asked = asked; held = held; same = same }

pub same-start : {words : List (List ℕ)} {tables : Option Files} {a : Asked} {loaded : Network} {st_loaded : State} {names_loaded : Names} → WasLoaded words tables a loaded st_loaded names_loaded
    → (nw : Network) (st : State) (names : Names) (loads : Loads words tables nw st names) → IsStart words tables a nw loaded st names loads st_loaded names_loaded
same-start was nw st names loads = grind (arith, was.asked, loads.asked_is, was.held, was.same)

-- a feed that was loaded is not to be refused
pub not-refused : {words : List (List ℕ)} {tables : Option Files} {a : Asked} {loaded : Network} {st : State} {names : Names}
    → WasLoaded words tables a loaded st names → (why : FeedRefusal) → ¬ (IsFeedRefused words tables why)
not-refused was why r = grind (arith, was.asked, r.asked_is, was.held r.told r.told_is, r.refused)

-- two timetables that words ask for are one
pub record AreOne {words : List (List ℕ)} {tables : Option Files}
    {nw nx : Network} {st su : State} {names others : Names} (x : Loads words tables nw st names) (y : Loads words tables nx su others) : Type 0 where
  pub asked : x.asked ≡ y.asked
  pub told : x.told ≡ y.told
  pub service : first_service nw names st ≡ first_service nx others su

are-one : {words : List (List ℕ)} {tables : Option Files}
    {nw nx : Network} {st su : State} {names others : Names} (x : Loads words tables nw st names) (y : Loads words tables nx su others) → AreOne x y
are-one x y = grind (arith, x.asked_is, y.asked_is, x.told_is, y.told_is, x.rows_are, y.rows_are, x.network_is, y.network_is, x.holds, y.holds)

-- what a command has to begin with is not to be refused
pub begun-not-refused : {B : Type 0} {task : Task B} {words : List (List ℕ)} {tables : Option Files} {start : B}
    → Begins task words tables start → (why : Refusal) → ¬ (IsRefused task words tables why)
begun-not-refused b (by_feed why) r = let l = b.loads in grind (arith, l.asked_is, r.asked_is, l.told_is, r.told_is, l.holds, r.refused)
begun-not-refused b (by_command line) r = let one = are-one b.loads r.loads in absurd (cc (one.asked, one.told, one.service, b.begins, r.refused))

-- ---- commands that begin with the service that was loaded

-- an output is the same over networks that no definition tells apart
pub record IsOutputAlike (o : Output ServiceState) : Type 0 where
  pub whole : (a b : Network) → IsSame a b → (names : Names) (st : State) (lines : List Line) (bytes : List ℕ)
      → o.IsWhole (first_service b names st) lines bytes → o.IsWhole (first_service a names st) lines bytes
  pub replies : (a b : Network) → IsSame a b → (names : Names) (st : State) (lines : List Line) (bytes : List ℕ)
      → o.AreReplies (first_service b names st) lines bytes → o.AreReplies (first_service a names st) lines bytes

pub times-alike : IsOutputAlike times_output
times-alike = record { whole = output-same; replies = λ a b h names st lines bytes r. replies-same a b h names st [] lines bytes r }

pub served-alike : IsOutputAlike served_output
served-alike = record { whole = served-same; replies = whole-same }

-- what a command begins with, and the line by which it refuses
abbrev made : {A : Type 0} → A → Result A (List ℕ)
made x = Ok x

abbrev refused : {A : Type 0} → List ℕ → Result A (List ℕ)
refused line = Err line

same-ok : {A : Type 0} (x y : A) → made x ≡ made y → x ≡ y
same-ok x y is = cc

not-both : {A : Type 0} (x : A) (line : List ℕ) → made x ≡ refused line → ⊥
not-both x line is = absurd cc

same-line : {A : Type 0} (x y : List ℕ) → refused {A = A} x ≡ refused y → x ≡ y
same-line x y is = cc

-- the service that the words ask for is the one that was loaded, but for its network
pub same-service : {words : List (List ℕ)} {tables : Option Files}
    {a : Asked} {nw loaded : Network} {st : State} {names : Names} {loads : Loads words tables nw st names} {st_loaded : State} {names_loaded : Names}
    → IsStart words tables a nw loaded st names loads st_loaded names_loaded → first_service nw names st ≡ first_service nw names_loaded st_loaded
same-service {nw = nw} {st = st} {names_loaded = names_loaded} s = ap (λ (ns : Names). first_service nw ns st) s.named ∙ ap (λ (t : State). first_service nw names_loaded t) s.state

-- they begin with the service that was loaded
pub by-service : {o : Output ServiceState} {words : List (List ℕ)} {tables : Option Files} {a : Asked} {loaded : Network} {st : State} {names : Names} → IsOutputAlike o
    → WasLoaded words tables a loaded st names
    → IsBegun (service_task o) words tables (o.IsWhole (first_service loaded names st)) (o.AreReplies (first_service loaded names st))
by-service {o = o} {loaded = loaded} {st = st} {names = names} alike was = record {
  asked = λ absent. none-some _ (sym absent ∙ was.asked);
  not_refused = elim [ by_feed why ↦ not-refused was why | by_command line ↦ λ r. (not-both _ line r.refused) ];
  whole = λ start begins lines bytes w.
      let s = same-start was begins.network begins.state begins.names begins.loads in
      subst (λ (t : ServiceState). o.IsWhole t lines bytes) (sym (same-service s) ∙ same-ok _ _ begins.begins)
      (alike.whole begins.network loaded s.network names st lines bytes w);
  replies = λ start begins lines bytes r.
      let s = same-start was begins.network begins.state begins.names begins.loads in
      subst (λ (t : ServiceState). o.AreReplies t lines bytes) (sym (same-service s) ∙ same-ok _ _ begins.begins)
      (alike.replies begins.network loaded s.network names st lines bytes r);
}

-- ---- commands that answer line by line

-- a service that has accepted no message is the first one
at-first : (t : ServiceState) → t.count ≡ 0 → t ≡ first_service t.network t.names t.state
at-first t none = ap (λ (n : ℕ). record { network = t.network; state = t.state; count = n; names = t.names }) none

-- what begins the same over networks alike does so also where its table is too long
alike-if : {C : Type 0} (nw : Network) (long : Bool) (line : List ℕ) (x y : Result (Start C) (List ℕ))
    → x ≡ begun_over nw y → (if long then Err line else x) ≡ begun_over nw (if long then Err line else y)
alike-if nw true line x y is = refl
alike-if nw false line x y is = is

alike-unless : {C : Type 0} (nw : Network) (name table : Option (List ℕ)) (x y : Result (Start C) (List ℕ)) → x ≡ begun_over nw y → unless_long name table x ≡ begun_over nw (unless_long name table y)
alike-unless nw None table x y is = is
alike-unless nw (Some n) table x y is = alike-if nw (is_long table) (long_line n) x y is

begins-alike : {C : Type 0} (b : Behind C) → IsBegunAlike b → (nw : Network) (a : Asked) (table : Option (List ℕ)) (t : ServiceState)
    → IsSame nw t.network → begins_by b a table (over nw t) ≡ begun_over nw (begins_by b a table t)
begins-alike b alike nw a table t same = alike-unless nw b.table table (b.begins a table (over nw t)) (b.begins a table t) (alike.alike nw a table t same)

-- and what it begins with is what it finds
begun-if : {C : Type 0} (long : Bool) (line : List ℕ) (due : Result (Start C) (List ℕ)) (s : Start C) → (if long then Err line else due) ≡ Ok s → due ≡ Ok s
begun-if true line due s is = absurd cc
begun-if false line due s is = is

begun-short : {C : Type 0} (name table : Option (List ℕ)) (due : Result (Start C) (List ℕ)) (s : Start C) → unless_long name table due ≡ Ok s → due ≡ Ok s
begun-short None table due s is = is
begun-short (Some n) table due s is = begun-if (is_long table) (long_line n) due s is

-- a feed that holds a timetable holds tables
has-tables : (told : Files) (a : Asked) (held : State × Names) → asked_in told a ≡ Ok held → (rows : Tables) × (tables_in told a ≡ Ok rows)
unfolding loaded
has-tables told a held is = first-of (tables_in told a) _ is where
  first-of : {A B E : Type 0} {y : B} (x : Result A E) (next : A → Result B E) → (x >>= next) ≡ Ok y → (r : A) × (x ≡ Ok r)
  first-of (Ok r) next is = (r, refl)
  first-of (Err e) next is = absurd cc

-- a table that was fetched by a name was fetched by this one
pub same-table : (name own : Option (List ℕ)) (tables : List ℕ → Option (List ℕ)) (f : Fetched) → name ≡ own → IsFetched (table_among name tables) f → IsFetched (table_among own tables) f
same-table name own tables f is fetched = subst (λ (n : Option (List ℕ)). IsFetched (table_among n tables) f) is fetched

-- where this was due over the service that was loaded, the same is due over the one that the words
-- ask for
module _ {C : Type 0} {b : Behind C} {words : List (List ℕ)} {tables : Option Files} {a : Asked} {t : ServiceState} {due : Result (Start C) (List ℕ)} (alike : IsBegunAlike b) (none : t.count ≡ 0)
    (was : WasLoaded words tables a t.network t.state t.names) (first : (told : Files) → tables ≡ Some told → begins_by b a (table_among b.table (told a.folder)) t ≡ due) where
  begun-again : {nw : Network} {st : State} {names : Names} (loads : Loads words tables nw st names)
      → (begins_by b loads.asked (table_among b.table (loads.told loads.asked.folder)) (first_service nw names st) ≡ begun_over nw due) × IsSame nw t.network
  begun-again {nw = nw} {st = st} {names = names} loads =
      let start = same-start was nw st names loads in
      let by : Asked → ServiceState → Result (Start C) (List ℕ) = λ x u. begins_by b x (table_among b.table (loads.told x.folder)) u in
      let asked_same : by loads.asked (first_service nw names st) ≡ by a (first_service nw names st) = ap (λ (x : Asked). by x (first_service nw names st)) start.asked in
      let service_same : first_service nw names st ≡ over nw t = same-service start ∙ ap (over nw) (sym (at-first t none)) in
      (asked_same ∙ ap (by a) service_same ∙ begins-alike b alike nw a _ t start.network ∙ ap (begun_over nw) (first loads.told loads.told_is), start.network)

-- where it begins, it writes what it is to write
module _ {C : Type 0} {b : Behind C} {words : List (List ℕ)} {tables : Option Files} {a : Asked} {t : ServiceState} {s : Start C} (alike : IsBegunAlike b) (none : t.count ≡ 0)
    (was : WasLoaded words tables a t.network t.state t.names) (first : (told : Files) → tables ≡ Some told → begins_by b a (table_among b.table (told a.folder)) t ≡ Ok s) where
  keeps-network : {nw : Network} {st : State} {names : Names} (loads : Loads words tables nw st names) → IsSame nw t.network → IsSame nw s.service.network
  keeps-network {nw = nw} loads same = subst (IsSame nw) (sym (alike.keeps a _ t s (begun-short b.table _ _ s (first loads.told loads.told_is)))) same

  pub by-line : {o : LineOutput C} → IsWrittenAlike o → IsBegun (line_task b o) words tables ((line_output o).IsWhole s) ((line_output o).AreReplies s)
  by-line {o = o} written = record {
    asked = λ absent. none-some _ (sym absent ∙ was.asked);
    not_refused = elim [ by_feed why ↦ not-refused was why | by_command line ↦ λ r. (not-both _ line (sym (begun-again alike none was first r.loads).0 ∙ r.refused)) ];
    whole = λ start begins lines bytes w.
        let again = begun-again alike none was first begins.loads in
        subst (λ (x : Start C). (line_output o).IsWhole x lines bytes) (same-ok _ _ (sym again.0 ∙ begins.begins))
        (whole-over written begins.network s.service s.kept (keeps-network begins.loads again.1) lines bytes w);
    replies = λ start begins lines bytes r.
        let again = begun-again alike none was first begins.loads in
        subst (λ (x : Start C). (line_output o).AreReplies x lines bytes) (same-ok _ _ (sym again.0 ∙ begins.begins))
        (elim r [ inl some ↦ inl (beginning-alike written begins.network s.service s.kept (keeps-network begins.loads again.1) lines bytes some) | inr nothing ↦ inr nothing ]);
  }

-- where it refuses, it is to be refused by this line alone
module _ {C : Type 0} {b : Behind C} {words : List (List ℕ)} {tables : Option Files} {a : Asked} {t : ServiceState} {line : List ℕ} (alike : IsBegunAlike b) (none : t.count ≡ 0)
    (was : WasLoaded words tables a t.network t.state t.names) (first : (told : Files) → tables ≡ Some told → begins_by b a (table_among b.table (told a.folder)) t ≡ Err line) where
  is-load-refused : (o : LineOutput C) (told : Files) → tables ≡ Some told → IsLoadRefused (line_task b o) words tables line
  is-load-refused o told is =
      let rows = has-tables told a (t.state, t.names) (was.held told is) in
      let loads : Loads words tables (network rows.0 a.opts) t.state t.names =
      record { asked = a; told = told; asked_is = was.asked; told_is = is; rows = rows.0; rows_are = rows.1; network_is = refl; holds = was.held told is } in
      record { network = network rows.0 a.opts; state = t.state; names = t.names; loads = loads; refused = (begun-again alike none was first loads).0 }

  pub says-behind : {o : LineOutput C} → Refuses b line → SaysWhy (line_task b o) words tables line
  says-behind {o = o} own = record { why = by_command line; line_is = refl; can = own; is = λ told is. is-load-refused o told is }

  pub only-behind : (o : LineOutput C) (why : Refusal) → IsRefused (line_task b o) words tables why → line_of_refusal why ≡ line
  only-behind o (by_feed why) r = absurd (not-refused was why r)
  only-behind o (by_command other) r = same-line _ _ (sym r.refused ∙ (begun-again alike none was first r.loads).0)

-- ---- where nothing is written

-- nothing is what is written for no lines
abbrev pub WritesNothing : {B : Type 0} → Task B → Type 0
WritesNothing {B = B} task = (start : B) → task.output.AreReplies start [] []

pub by-times : WritesNothing (service_task times_output)
by-times t = refl

pub by-served : WritesNothing (service_task served_output)
by-served t = nothing-served t.network t.names t.state

pub by-no_line : {C : Type 0} (b : Behind C) (o : LineOutput C) → WritesNothing (line_task b o)
by-no_line b o start = inr (refl, refl)

-- nothing is written where nothing was taken
pub none-written : {B : Type 0} (task : Task B) → WritesNothing task
    → (start : B) (written : Option (List ℕ)) → AppendsAll (task.output.AreReplies start (lines_of false [])) written written
unfolding lines_of
none-written task none start written = record { shown = []; is = none start; written = Appends-nil written }

-- and nothing is a front of what is written
pub none-front : {B Failed : Type 0} (task : Task B) → WritesNothing task → ¬ Failed → (start : B) (budget : ℕ) (left written : Option (List ℕ))
    → AppendsTakenFront Failed (task.output.IsWhole start) (task.output.AreReplies start) budget left left written written
none-front task none no_fault start budget left written = record {
  bytes = [];
  took = consumes_none left;
  front = inl (record { first = []; later = lines_of false []; shown = []; split = refl; is = none start; front = front_none no_fault written [] });
}
