-- How a run ends: before it reads its input, or when it answers lines.
use Rattle.std.proofs.Common.{◌≡◌, ◌⊎◌, ◌∙◌, ℕ, List, [], Option, Some, None, Result, Ok, Err, ap, arith, refl, sym, subst, true, false, inl, inr}
use Rattle.std.proofs.lemmas.Option.{none-some}
use Rattle.std.specs.Io.KnownBytes.{Consumes, IsAtEnd}
use Rattle.std.specs.Result.{IfErr, IsErrAnd, IsErrOf, OnOk}
use Rattle.command_words.specs.declared.words.WordsFault.{WordsFault}
use Rattle.command_words.specs.declared.words.WordsFault.TheVariants as words_faults
use Rattle.command_words.specs.Words.{Asked, asked_of}
use Rattle.delay_model.specs.declared.state.State.{State}
use Rattle.gtfs_tables.specs.declared.refusals.FeedError.{FeedError}
use Rattle.gtfs_tables.specs.declared.refusals.FeedError.TheVariants as feeds
use Rattle.gtfs_tables.specs.declared.refusals.FeedRefusal.{FeedRefusal}
use Rattle.gtfs_tables.specs.Feeds.{Files}
use Rattle.gtfs_tables.specs.Refusals.{IsErrorOf}
use Rattle.information_service.specs.Answering.{LineOutput}
use Rattle.information_service.specs.Causes.{HasCounts, TookFewer, WhereLinesStop}
use Rattle.information_service.specs.declared.fault.LinesFault.{LinesFault}
use Rattle.information_service.specs.declared.fault.LinesFault.TheVariants as lines
use Rattle.information_service.specs.Fronts.{AppendsAll, AppendsTakenFront}
use Rattle.information_service.specs.ServiceState.{ServiceState}
use Rattle.information_service.proofs.Ends.{none_taken, where_also}
use Rattle.information_service.proofs.Fronts.{all_as, taken_as, taken_if}
use Rattle.mt_io.specs.Causes.{Faults, IsFull, counted}
use Rattle.mt_io.specs.Lines.{Line, lines_of}
use Rattle.mt_io.proofs.Gives.{consumes_none}
use Rattle.schedule_build.specs.Directory.{Names}
use Rattle.commands.specs.Beginnings.{IsBegun, IsEarly, StopsEarly, stops}
use Rattle.commands.specs.Contract.{EndsAs}
use Rattle.commands.specs.Failing.{FeedReadFailed, InputReadFailed, NothingFailed, WriteFailed}
use Rattle.commands.specs.Feeds.{asked_in}
use Rattle.commands.specs.LineTasks.{Behind, IsBegunAlike, begins_by, line_task, table_among}
use Rattle.commands.specs.Loading.{HasOwnLine, IsLoaded, IsOfFeed, load_stop}
use Rattle.commands.specs.Promises.{IsRefusedWith}
use Rattle.commands.specs.Runs.{IsRefused, Refusal, SaysWhy, by_feed, by_command, line_of_refusal}
use Rattle.commands.specs.Seen.{FeedSeen, StreamSeen}
use Rattle.commands.specs.Statuses.{IsFeedStop, refusal_line, run_of, words_stop}
use Rattle.commands.specs.Tasks.{Task}
use Rattle.commands.specs.declared.loading.LoadFault.{LoadFault}
use Rattle.commands.specs.declared.loading.LoadFault.TheVariants as faults
use Rattle.commands.specs.declared.status.Stop.{Stop}
use Rattle.commands.specs.declared.status.Stop.TheVariants.{Usage, Refused, Fault}
use Rattle.commands.proofs.Tables.{WasLoaded, WritesNothing, none-written, none-front, only-behind, says-behind}

pub not-error : {T E : Type 0} (x : T) (e : E) → ¬ (Ok x ≡ Err e)
not-error x e is = absurd cc

pub same-error : {T E : Type 0} (r : Result T E) (e f : E) → r ≡ Err e → r ≡ Err f → e ≡ f
same-error r e f one other = cc

pub same-stop : (s u : Stop) → stops s ≡ stops u → s ≡ u
same-stop s u is = cc

pub is-err : (run : Result (Unit {0}) Stop) (s : Stop) → IsErrAnd run (λ e. e ≡ s) → stops s ≡ run
is-err (Ok u) s is = absurd is
is-err (Err e) s is = grind (arith, is)

-- ---- before the input is read

-- a stream that a run did not touch
abbrev pub still : Option (List ℕ) → Faults → StreamSeen
still bytes faults = record { bytes = bytes; bytes_after = bytes; faults = faults; faults_after = faults }

-- then the input and the output are as they were
pub stopped-early : {B F S K : Type 0} {task : Task B} → WritesNothing task → {budget : ℕ} {words : List (List ℕ)} {feed : FeedSeen}
    {left written : Option (List ℕ)} {reads writes : Faults} {before after : F} {input : S} {out : K} (s : Stop) → StopsEarly task words feed (after ≡ before) s
    → EndsAs task budget words feed (still left reads) (still written writes) before after input input out out (stops s)
stopped-early {task = task} none {budget = budget} {feed = feed} {left = left} {written = written} {reads = reads} {writes = writes} s e =
    let one : stops s ≡ stops (Fault lines.ReadFault) → FeedReadFailed feed (still left reads) (still written writes) = λ is. record { feed_reads = e.failed is; input_reads = refl; writes = refl } in
    let not_late : (f : LinesFault) → ¬ (IsEarly (Fault f)) → ¬ (stops s ≡ stops (Fault f)) = λ f late is. late (subst IsEarly (same-stop s (Fault f) is) e.early) in
    record {
      usage = e.usage;
      usage_exactly = e.usage_exactly;
      usage_untouched = λ absent. (e.usage_untouched absent, refl, refl);
      refused = e.refused;
      refused_exactly = λ why r. elim (e.refused_exactly why r) [ inl with_line ↦ inl with_line | inr other ↦ elim other [ inl memory ↦ inr (inl memory) | inr read ↦ inr (inr (read, one read)) ] ];
      untouched = λ line is. (refl, refl);
      refused_untouched = λ why r. (refl, refl);
      at_most = none_taken budget left;
      fewer = λ is. absurd (not-error tt s (sym is));
      ok = λ is. absurd (not-error tt s (sym is));
      ended = λ is. absurd (not-error tt s (sym is));
      stopped = λ is start begins. ([], consumes_none left, none-written task none start written);
      front = λ start begins. none-front task none (not_late lines.WriteFault (λ h. h)) start budget left written;
      read_fault = λ is. inl (refl, refl, one is);
      write_fault = λ is. absurd (not_late lines.WriteFault (λ h. h) is);
      no_fault = λ not_read not_written. record { feed_reads = ap Some (e.answered not_read); input_reads = refl; writes = refl };
      too_long = λ is. absurd (not_late lines.TooLong (λ h. h) is);
    }

-- words that ask for something do not ask for nothing
pub not-none : {P : Type 0} (words : List (List ℕ)) (a : Asked) → asked_of words ≡ Some a → asked_of words ≡ None → P
not-none words a asked absent = absurd (none-some a (sym absent ∙ asked))

-- what is to be refused was asked for
refused-asked : {B : Type 0} (task : Task B) (words : List (List ℕ)) (tables : Option Files) (why : Refusal) → IsRefused task words tables why → asked_of words ≡ None → ⊥
refused-asked task words tables (by_feed why) r absent = not-none words r.asked r.asked_is absent
refused-asked task words tables (by_command line) r absent = not-none words r.loads.asked r.loads.asked_is absent

module _ {B : Type 0} {task : Task B} {words : List (List ℕ)} {feed : FeedSeen} {Same : Type 0} (same : asked_of words ≡ None → Same) where
  -- there is no memory
  pub early-memory : feed.faults_after ≡ feed.faults → StopsEarly task words feed Same (Fault lines.OutOfMemory)
  early-memory answered = record {
    early = tt;
    usage = λ is. absurd cc;
    usage_exactly = λ absent. inr refl;
    usage_untouched = same;
    refused = λ line is. absurd is;
    refused_exactly = λ why r. inr (inl refl);
    failed = λ is. absurd cc;
    answered = λ other. answered;
  }

  -- the words ask for nothing
  early-usage : feed.faults_after ≡ feed.faults → asked_of words ≡ None → StopsEarly task words feed Same Usage
  early-usage answered absent = record {
    early = tt;
    usage = λ is. absent;
    usage_exactly = λ is. inl refl;
    usage_untouched = same;
    refused = λ line is. absurd is;
    refused_exactly = λ why r. absurd (refused-asked task words feed.tables why r absent);
    failed = λ is. absurd cc;
    answered = λ other. answered;
  }

  pub early-words : (f : WordsFault) → feed.faults_after ≡ feed.faults → (f ≡ words_faults.Usage → asked_of words ≡ None) → StopsEarly task words feed Same (words_stop f)
  early-words words_faults.Usage answered usage = early-usage answered (usage refl)
  early-words words_faults.OutOfMemory answered usage = early-memory answered

-- a feed that is refused for this is refused with its line
feed-says : {B : Type 0} {task : Task B} {words : List (List ℕ)} {tables : Option Files} {a : Asked} → asked_of words ≡ Some a
    → (why : FeedRefusal) (line : List ℕ) → line ≡ refusal_line why → ((told : Files) → tables ≡ Some told → asked_in told a ≡ Err why)
    → SaysWhy task words tables line
feed-says {a = a} asked why line is gives =
    record { why = by_feed why; line_is = is; can = tt; is = λ told t. record { asked = a; told = told; asked_is = asked; told_is = t; refused = gives told t } }

-- and for no other reason
feed-exactly : {B : Type 0} (task : Task B) (words : List (List ℕ)) (tables : Option Files) (a : Asked) → asked_of words ≡ Some a
    → (why : FeedRefusal) (line : List ℕ) → line ≡ refusal_line why → ((told : Files) → tables ≡ Some told → asked_in told a ≡ Err why)
    → (other : Refusal) → IsRefused task words tables other → line_of_refusal other ≡ line
feed-exactly task words tables a asked why line is gives (by_feed other) r = ap refusal_line (same-refusal r.asked r.told r.asked_is (gives r.told r.told_is) r.refused) ∙ sym is where
  same-refusal : {other : FeedRefusal} (b : Asked) (told : Files) → asked_of words ≡ Some b → asked_in told a ≡ Err why → asked_in told b ≡ Err other → other ≡ why
  same-refusal b told asks one two = grind (arith, asked, asks, one, two)
feed-exactly task words tables a asked why line is gives (by_command other) r = let l = r.loads in absurd (both l.asked l.told l.asked_is (gives l.told l.told_is) l.holds) where
  both : {held : State × Names} (b : Asked) (told : Files) → asked_of words ≡ Some b → asked_in told a ≡ Err why → asked_in told b ≡ Ok held → ⊥
  both b told asks one two = grind (arith, asked, asks, one, two)

-- words that ask for something
module _ {B : Type 0} {task : Task B} {words : List (List ℕ)} {feed : FeedSeen} {Same : Type 0} {a : Asked} (asked : asked_of words ≡ Some a) where
  -- a read failed
  pub early-read : Some feed.faults_after ≡ counted feed.faults → StopsEarly task words feed Same (Fault lines.ReadFault)
  early-read failed = record {
    early = tt;
    usage = λ is. absurd cc;
    usage_exactly = λ absent. not-none words a asked absent;
    usage_untouched = λ absent. not-none words a asked absent;
    refused = λ line is. absurd is;
    refused_exactly = λ why r. inr (inr refl);
    failed = λ is. failed;
    answered = λ other. absurd (other refl);
  }

  -- what they ask for is refused
  pub early-refused : (s : Stop) (line : List ℕ) → IsRefusedWith line (stops s) → SaysWhy task words feed.tables line
      → ((why : Refusal) → IsRefused task words feed.tables why → line_of_refusal why ≡ line) → feed.faults_after ≡ feed.faults
      → StopsEarly task words feed Same s
  early-refused Usage line is says exactly answered = absurd is
  early-refused (Fault f) line is says exactly answered = absurd is
  early-refused (Refused told) line is says exactly answered = record {
    early = tt;
    usage = λ is. absurd cc;
    usage_exactly = λ absent. not-none words a asked absent;
    usage_untouched = λ absent. not-none words a asked absent;
    refused = λ other also. subst (SaysWhy task words feed.tables) (is ∙ sym also) says;
    refused_exactly = λ why r. inl (exactly why r ∙ is);
    failed = λ is. absurd cc;
    answered = λ other. answered;
  }

  pub early-feed : (f : FeedError) (s : Stop) → IsFeedStop f s → ((told : Files) → feed.tables ≡ Some told → IsErrorOf f (asked_in told a))
      → (f ≡ feeds.ReadFault → Some feed.faults_after ≡ counted feed.faults) → (¬ (f ≡ feeds.ReadFault) → feed.faults_after ≡ feed.faults)
      → StopsEarly task words feed Same s
  early-feed feeds.ReadFault s is gives failed answered = subst (StopsEarly task words feed Same) (sym is) (early-read (failed refl))
  early-feed feeds.OutOfMemory s is gives failed answered = subst (StopsEarly task words feed Same) (sym is) (early-memory (not-none words a asked) (answered (λ e. absurd cc)))
  early-feed (feeds.Refused why) Usage is gives failed answered = absurd is
  early-feed (feeds.Refused why) (Refused told) is gives failed answered =
      early-refused (Refused told) told.items refl (feed-says asked why told.items is gives) (feed-exactly task words feed.tables a asked why told.items is gives) (answered (λ e. absurd cc))
  early-feed (feeds.Refused why) (Fault f) is gives failed answered =
      subst (λ (g : LinesFault). StopsEarly task words feed Same (Fault g)) (sym is) (early-memory (not-none words a asked) (answered (λ e. absurd cc)))

module _ {B F S K : Type 0} {task : Task B} (none : WritesNothing task) {budget : ℕ}
    {words : List (List ℕ)} {feed : FeedSeen} {left written : Option (List ℕ)} {reads writes : Faults} {before after : F} {input : S} {out : K} where
  -- a run that stops early, where that is handed on
  pub early-run : (run : Result (Unit {0}) Stop) (s : Stop) → IsErrAnd run (λ e. e ≡ s) → StopsEarly task words feed (after ≡ before) s
      → EndsAs task budget words feed (still left reads) (still written writes) before after input input out out run
  early-run run s is early = subst (EndsAs task budget words feed (still left reads) (still written writes) before after input input out out) (is-err run s is) (stopped-early none s early)

-- what holds of why it stops holds of what is the same
pub early-same : {B : Type 0} {task : Task B} {words : List (List ℕ)} {feed : FeedSeen} {Same : Type 0} (s u : Stop) → s ≡ u → StopsEarly task words feed Same u → StopsEarly task words feed Same s
early-same {task = task} {words = words} {feed = feed} {Same = Same} s u is early = subst (StopsEarly task words feed Same) (sym is) early

-- and where it is handed on
pub early-handed : {X B : Type 0} {task : Task B} {words : List (List ℕ)} {feed : FeedSeen} {Same : Type 0} (run : Result X Stop) (s : Stop)
    → IsErrAnd run (λ e. e ≡ s) → StopsEarly task words feed Same s → IfErr run (StopsEarly task words feed Same)
early-handed (Ok x) s is early = tt
early-handed {task = task} {words = words} {feed = feed} {Same = Same} (Err e) s is early = subst (StopsEarly task words feed Same) (sym is) early

-- a table of the command's own is not fetched
module _ {B : Type 0} {task : Task B} {words : List (List ℕ)} {feed : FeedSeen} {Same : Type 0} {a : Asked} where
  pub early-own : asked_of words ≡ Some a → (f : LinesFault) → IsOfFeed f → (f ≡ lines.ReadFault → Some feed.faults_after ≡ counted feed.faults)
      → (¬ (f ≡ lines.ReadFault) → feed.faults_after ≡ feed.faults) → StopsEarly task words feed Same (Fault f)
  early-own asked lines.ReadFault of_feed failed answered = early-read asked (failed refl)
  early-own asked lines.WriteFault of_feed failed answered = absurd of_feed
  early-own asked lines.OutOfMemory of_feed failed answered = early-memory (not-none words a asked) (answered (λ e. absurd cc))
  early-own asked lines.TooLong of_feed failed answered = absurd of_feed

-- the command does not begin
pub early-behind : {C : Type 0} {b : Behind C} {o : LineOutput C}
    {words : List (List ℕ)} {feed : FeedSeen} {Same : Type 0} {a : Asked} {t : ServiceState} (now : ServiceState)
    → IsBegunAlike b → t.count ≡ 0 → WasLoaded words feed.tables a t.network t.state t.names → feed.faults_after ≡ feed.faults → (f : LoadFault)
    → ((told : Files) → feed.tables ≡ Some told → IsLoaded (begins_by b a (table_among b.table (told a.folder)) t) now (Err f))
    → HasOwnLine b f → StopsEarly (line_task b o) words feed Same (load_stop f)
early-behind {o = o} now alike none was answered (faults.Refused line) due own =
    early-refused was.asked (Refused line) line.items refl (says-behind alike none was due own) (only-behind alike none was due o) answered
early-behind {words = words} {a = a} now alike none was answered faults.OutOfMemory due own = early-memory (not-none words a was.asked) answered

-- ---- when lines are answered

-- what holds where the lines stop for a failed read, or since the input is too long, holds of a run
-- that hands their fault on
stopped-lines : (T : Type 0) (f : LinesFault) → WhereLinesStop T f → (stops (Fault f) ≡ stops (Fault lines.ReadFault)) ⊎ (stops (Fault f) ≡ stops (Fault lines.TooLong)) → T
stopped-lines T lines.ReadFault t stop = t
stopped-lines T lines.WriteFault t stop = grind arith
stopped-lines T lines.OutOfMemory t stop = grind arith
stopped-lines T lines.TooLong t stop = t

pub same-fault : (f g : LinesFault) → stops (Fault f) ≡ stops (Fault g) → f ≡ g
same-fault f g is = cc

not-stopped : {P : Type 0} → (Ok tt ≡ stops (Fault lines.ReadFault)) ⊎ (Ok tt ≡ stops (Fault lines.TooLong)) → P
not-stopped (inl is) = absurd cc
not-stopped (inr is) = absurd cc

-- what a run with this result counts of its input and its output
abbrev pub Counts : ℕ → StreamSeen → StreamSeen → Result (Unit {0}) LinesFault → Type 0
Counts budget input out run = HasCounts budget run input.bytes input.bytes_after input.faults input.faults_after out.faults out.faults_after (IsFull out.faults_after out.bytes_after)

-- where no read of the feed failed, what failed when the lines stopped
module _ {budget : ℕ} {feed : FeedSeen} {input out : StreamSeen} (loads : feed.faults_after ≡ feed.faults) where
  read-of-lines : (f : LinesFault) → Counts budget input out (Err f) → f ≡ lines.ReadFault → InputReadFailed feed input out × TookFewer budget input.bytes input.bytes_after
  read-of-lines lines.ReadFault counts is = (record { feed_reads = ap Some loads; input_reads = counts.reads; writes = counts.writes }, counts.read_early refl)
  read-of-lines lines.WriteFault counts is = absurd cc
  read-of-lines lines.OutOfMemory counts is = absurd cc
  read-of-lines lines.TooLong counts is = absurd cc

  write-of-lines : (f : LinesFault) → Counts budget input out (Err f) → f ≡ lines.WriteFault → WriteFailed feed input out
  write-of-lines lines.ReadFault counts is = absurd cc
  write-of-lines lines.WriteFault counts is = (record { feed_reads = ap Some loads; input_reads = counts.reads; writes = counts.writes }, counts.full refl)
  write-of-lines lines.OutOfMemory counts is = absurd cc
  write-of-lines lines.TooLong counts is = absurd cc

  none-of-lines : (f : LinesFault) → Counts budget input out (Err f) → ¬ (f ≡ lines.ReadFault) → ¬ (f ≡ lines.WriteFault) → NothingFailed feed input out
  none-of-lines lines.ReadFault counts not_read not_written = absurd (not_read refl)
  none-of-lines lines.WriteFault counts not_read not_written = absurd (not_written refl)
  none-of-lines lines.OutOfMemory counts not_read not_written = record { feed_reads = ap Some loads; input_reads = counts.reads; writes = counts.writes }
  none-of-lines lines.TooLong counts not_read not_written = record { feed_reads = ap Some loads; input_reads = counts.reads; writes = counts.writes }

module _ {B F S K : Type 0} {task : Task B} {budget : ℕ} {words : List (List ℕ)}
    {feed : FeedSeen} {input out : StreamSeen} {feed_old feed_new : F} {input_old input_new : S} {out_old out_new : K} {IsAll Are : List Line → List ℕ → Type 0}
    (begun : IsBegun task words feed.tables IsAll Are) (loads : feed.faults_after ≡ feed.faults) where
  -- all lines are answered
  all-answered : {Failed : Type 0} → ((bytes : List ℕ) → input.bytes ≡ Some bytes → AppendsAll (IsAll (lines_of true bytes)) out.bytes out.bytes_after) → IsAtEnd input.bytes_after
      → AppendsTakenFront Failed IsAll Are budget input.bytes input.bytes_after out.bytes out.bytes_after
      → Counts budget input out (Ok tt) → EndsAs task budget words feed input out feed_old feed_new input_old input_new out_old out_new (Ok tt)
  all-answered whole end front counts = record {
    usage = λ is. absurd (not-error tt Usage is);
    usage_exactly = λ absent. absurd (begun.asked absent);
    usage_untouched = λ absent. absurd (begun.asked absent);
    refused = λ line is. absurd is;
    refused_exactly = λ why r. absurd (begun.not_refused why r);
    untouched = λ line is. absurd is;
    refused_untouched = λ why r. absurd (begun.not_refused why r);
    at_most = counts.at_most;
    fewer = λ is. counts.fewer;
    ok = λ is start bytes begins left. all_as (begun.whole start begins (lines_of true bytes)) (whole bytes left);
    ended = λ is. end;
    stopped = λ is. not-stopped is;
    front = λ start begins. taken_as (begun.whole start begins) (begun.replies start begins) (taken_if (λ is. absurd (not-error tt (Fault lines.WriteFault) is)) front);
    read_fault = λ is. absurd (not-error tt (Fault lines.ReadFault) is);
    write_fault = λ is. absurd (not-error tt (Fault lines.WriteFault) is);
    no_fault = λ not_read not_written. record { feed_reads = ap Some loads; input_reads = counts.reads; writes = counts.writes };
    too_long = λ is. absurd (not-error tt (Fault lines.TooLong) is);
  }

  stopped-at : (f : LinesFault) → WhereLinesStop ((bytes : List ℕ) × Consumes input.bytes input.bytes_after bytes × AppendsAll (Are (lines_of false bytes)) out.bytes out.bytes_after) f
      → AppendsTakenFront (IsErrOf {T = Unit {0}} (Err f) lines.WriteFault) IsAll Are budget input.bytes input.bytes_after out.bytes out.bytes_after
      → Counts budget input out (Err f) → EndsAs task budget words feed input out feed_old feed_new input_old input_new out_old out_new (stops (Fault f))
  stopped-at f stopped front counts = record {
    usage = λ is. absurd cc;
    usage_exactly = λ absent. absurd (begun.asked absent);
    usage_untouched = λ absent. absurd (begun.asked absent);
    refused = λ line is. absurd is;
    refused_exactly = λ why r. absurd (begun.not_refused why r);
    untouched = λ line is. absurd is;
    refused_untouched = λ why r. absurd (begun.not_refused why r);
    at_most = counts.at_most;
    fewer = λ is. absurd (not-error tt (Fault f) (sym is));
    ok = λ is. absurd (not-error tt (Fault f) (sym is));
    ended = λ is. absurd (not-error tt (Fault f) (sym is));
    stopped = λ is start begins.
        let had = stopped-lines _ f stopped is in
        (had.0, had.1, all_as (begun.replies start begins (lines_of false had.0)) had.2);
    front = λ start begins. taken_as (begun.whole start begins) (begun.replies start begins) (taken_if (λ is. ap Err (same-fault f lines.WriteFault is)) front);
    read_fault = λ is. inr (read-of-lines loads f counts (same-fault f lines.ReadFault is));
    write_fault = λ is. write-of-lines loads f counts (same-fault f lines.WriteFault is);
    no_fault = λ not_read not_written. none-of-lines loads f counts (λ is. not_read (ap (λ (g : LinesFault). stops (Fault g)) is)) (λ is. not_written (ap (λ (g : LinesFault). stops (Fault g)) is));
    too_long = λ is. counts.too_long (ap Err (same-fault f lines.TooLong is));
  }

  answered-lines : (run : Result (Unit {0}) LinesFault)
      → OnOk run ((bytes : List ℕ) → input.bytes ≡ Some bytes → AppendsAll (IsAll (lines_of true bytes)) out.bytes out.bytes_after)
      → OnOk run (IsAtEnd input.bytes_after)
      → IfErr run (WhereLinesStop ((bytes : List ℕ) × Consumes input.bytes input.bytes_after bytes × AppendsAll (Are (lines_of false bytes)) out.bytes out.bytes_after))
      → AppendsTakenFront (IsErrOf run lines.WriteFault) IsAll Are budget input.bytes input.bytes_after out.bytes out.bytes_after
      → Counts budget input out run → EndsAs task budget words feed input out feed_old feed_new input_old input_new out_old out_new (run_of run)
  answered-lines (Ok u) whole end stopped front counts = all-answered whole end front counts
  answered-lines (Err f) whole end stopped front counts = stopped-at f stopped front counts

  -- the lines end, or stop
  pub lines-end : (result : Result (Unit {0}) Stop) (run : Result (Unit {0}) LinesFault)
      → result ≡ run_of run → OnOk run ((bytes : List ℕ) → input.bytes ≡ Some bytes → AppendsAll (IsAll (lines_of true bytes)) out.bytes out.bytes_after)
      → OnOk run (IsAtEnd input.bytes_after)
      → IfErr run (WhereLinesStop ((bytes : List ℕ) × Consumes input.bytes input.bytes_after bytes × AppendsAll (Are (lines_of false bytes)) out.bytes out.bytes_after))
      → AppendsTakenFront (IsErrOf run lines.WriteFault) IsAll Are budget input.bytes input.bytes_after out.bytes out.bytes_after
      → Counts budget input out run → EndsAs task budget words feed input out feed_old feed_new input_old input_new out_old out_new result
  lines-end result run is whole end stopped front counts =
      subst (EndsAs task budget words feed input out feed_old feed_new input_old input_new out_old out_new) (sym is) (answered-lines run whole end stopped front counts)

-- where the lines stop, what is written are replies also where nothing was read
pub stopped-also : {T U : Type 0} (run : Result (Unit {0}) LinesFault) → (T → U) → IfErr run (WhereLinesStop T) → IfErr run (WhereLinesStop U)
stopped-also (Ok u) h t = tt
stopped-also (Err f) h t = where_also _ _ f h t
