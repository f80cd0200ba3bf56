-- How a run of `follow` ends.
use Rattle.std.proofs.Common.{◌≡◌, ◌≢◌, ◌∙◌, ◌⊎◌, ℕ, List, [], Option, Some, None, Result, Ok, Err, refl, sym, ap, subst, inl, inr, arith}
use Rattle.std.proofs.lemmas.Option.{none-some}
use Rattle.std.specs.Io.KnownBytes.{Appends, Consumes}
use Rattle.std.specs.Result.{IfErr, IsErrAnd, IsErrOf, OnOk}
use Rattle.command_words.specs.Words.{Asked, asked_of}
use Rattle.command_words.specs.declared.words.WordsFault.{WordsFault}
use Rattle.command_words.specs.declared.words.WordsFault.TheVariants as words_faults
use Rattle.delay_model.specs.declared.network.Network.{Network}
use Rattle.delay_model.specs.declared.state.State.{State}
use Rattle.delay_report.specs.Table.{table}
use Rattle.followed_input.specs.Faults.{reads_failed}
use Rattle.followed_input.specs.FollowedJournals.{IsJournalFollowed, IsRefusedSoFar}
use Rattle.followed_input.specs.declared.fault.FollowFault.{FollowFault}
use Rattle.followed_input.specs.declared.fault.FollowFault.TheVariants as follows
use Rattle.gtfs_tables.specs.declared.refusals.FeedError.{FeedError}
use Rattle.gtfs_tables.specs.declared.refusals.FeedError.TheVariants as feeds
use Rattle.gtfs_tables.specs.declared.refusals.FeedRefusal.{FeedRefusal}
use Rattle.gtfs_tables.specs.Feeds.{Files}
use Rattle.gtfs_tables.specs.Refusals.{IsErrorOf}
use Rattle.information_service.proofs.Ends.{none_taken}
use Rattle.information_service.proofs.Fronts.{front_all, front_if}
use Rattle.information_service.specs.Causes.{IsNotOfInput, TookAll, TookAtMost, TookFewer, writes_failed}
use Rattle.information_service.specs.Fronts.{AppendsFront}
use Rattle.information_service.specs.ServiceState.{ServiceState}
use Rattle.information_service.specs.declared.fault.LinesFault.{LinesFault}
use Rattle.information_service.specs.declared.fault.LinesFault.TheVariants as lines
use Rattle.journal_lines.specs.declared.heads.Head.{Head}
use Rattle.journal_lines.specs.Lines.{text_of_head}
use Rattle.journal_replay.specs.Reading.{JournalProgress}
use Rattle.journal_replay.specs.Replayed.{refusal_at_end, replay_of}
use Rattle.journal_replay.specs.declared.refusal.JournalRefusal.{JournalRefusal}
use Rattle.mt_io.proofs.Gives.{consumes_none}
use Rattle.mt_io.specs.Causes.{Faults, IsFull, counted}
use Rattle.schedule_build.specs.Directory.{Names}
use Rattle.timetable.specs.TimetableState.{TimetableState}
use Rattle.commands.specs.Beginnings.{IsEarly, StopsEarly, stops}
use Rattle.commands.specs.Failing.{FeedReadFailed, InputReadFailed}
use Rattle.commands.specs.FollowContract.{FollowEndsAs}
use Rattle.commands.specs.FollowTasks.{BeginsFollowing, FollowStart, IsFollowStop, IsJournalRefused, IsNotRefused, SaysWhyFeed, WritesTable, read_from, table_behind}
use Rattle.commands.specs.OwnLoads.{head_of, journal_line}
use Rattle.commands.specs.Runs.{CanBeRefused, IsFeedRefused, IsRefused, Loads, Refusal, SaysWhy, by_feed, by_command, line_of_refusal}
use Rattle.commands.specs.Seen.{FeedSeen, StreamSeen}
use Rattle.commands.specs.Feeds.{asked_in}
use Rattle.commands.specs.Statuses.{IsFeedStop, run_of, words_stop}
use Rattle.commands.specs.Tasks.{Task, first_service, service_task, times_output}
use Rattle.commands.specs.declared.status.Stop.{Stop}
use Rattle.commands.specs.declared.status.Stop.TheVariants.{Usage, Refused, Fault}
use Rattle.commands.proofs.Endings.{early-feed, early-memory, early-words, is-err, not-error, not-none, same-error, same-fault, same-stop, still}
use Rattle.commands.proofs.FollowLoads.{alike-loaded, over-at-end, over-refusal, over-so-far, over-table, read-loaded, table-at}
use Rattle.commands.proofs.FollowReading.{long-not-refused, long-taken, refused-for, whole-not-refused, whole-taken}
use Rattle.commands.proofs.Tables.{WasLoaded, not-refused}

-- ---- before the input is read

-- a feed that holds a timetable is not to be refused
pub holds-not-refused : {words : List (List ℕ)} {tables : Option Files} {nw : Network} {st : State} {names : Names} → Loads words tables nw st names → (why : FeedRefusal)
    → ¬ (IsFeedRefused words tables why)
holds-not-refused l why r = grind (arith, l.asked_is, r.asked_is, l.told_is, r.told_is, l.holds, r.refused)

-- a command that refuses nothing behind the feed refuses the feed
module _ {B : Type 0} (task : Task B) (none : (line : List ℕ) → ¬ (task.Refuses line)) {words : List (List ℕ)} {tables : Option Files} where
  says-by : (line : List ℕ) (why : Refusal) → line ≡ line_of_refusal why → CanBeRefused task why → ((told : Files) → tables ≡ Some told → IsRefused task words tables why)
      → SaysWhyFeed words tables line
  says-by line (by_feed why) is can due = record { why = why; line_is = is; is = due }
  says-by line (by_command other) is can due = absurd (none other can)

  says-feed : (line : List ℕ) → SaysWhy task words tables line → SaysWhyFeed words tables line
  says-feed line says = says-by line says.why says.line_is says.can says.is

-- where it has something to begin with, it stops early since a read failed or there is no memory
begun-early : {B : Type 0} (task : Task B) (none : (line : List ℕ) → ¬ (task.Refuses line)) {words : List (List ℕ)} {feed : FeedSeen} {Same : Type 0} {start : FollowStart}
    (s : Stop) → StopsEarly task words feed Same s → BeginsFollowing words feed.tables start
    → (stops s ≡ stops (Fault lines.OutOfMemory)) ⊎ (stops s ≡ stops (Fault lines.ReadFault))
begun-early task none Usage e begins = absurd (none-some begins.loads.asked (sym (e.usage refl) ∙ begins.loads.asked_is))
begun-early task none (Refused told) e begins =
    let says = says-feed task none told.items (e.refused told.items refl) in absurd (holds-not-refused begins.loads says.why (says.is begins.loads.told begins.loads.told_is))
begun-early task none (Fault lines.ReadFault) e begins = inr refl
begun-early task none (Fault lines.WriteFault) e begins = absurd e.early
begun-early task none (Fault lines.OutOfMemory) e begins = inl refl
begun-early task none (Fault lines.TooLong) e begins = absurd e.early

module _ {B F S K : Type 0} (task : Task B) (none : (line : List ℕ) → ¬ (task.Refuses line)) {budget : ℕ} {words : List (List ℕ)} {feed : FeedSeen}
    {left written : Option (List ℕ)} {reads writes : Faults} {before after : F} {input : S} {out : K} where
  pub follow-early : (s : Stop) → StopsEarly task words feed (after ≡ before) s
      → FollowEndsAs budget words feed (still left reads) (still written writes) before after input input out out (stops s)
  follow-early s e =
      let one : stops s ≡ stops (Fault lines.ReadFault) → FeedReadFailed feed (still left reads) (still written writes) =
      λ is. record { feed_reads = e.failed is; input_reads = refl; writes = refl } in
      let not_late : (f : LinesFault) → ¬ (IsEarly (Fault f)) → ¬ (stops s ≡ stops (Fault f)) = λ f late is. late (subst IsEarly (same-stop s (Fault f) is) e.early) in
      record {
        usage = e.usage;
        usage_exactly = e.usage_exactly;
        usage_untouched = λ absent. (e.usage_untouched absent, refl, refl);
        refused = λ line is. inl (says-feed task none line (e.refused line is), refl);
        feed_refused_exactly = λ why r. elim (e.refused_exactly (by_feed why) r) [
          | inl with_line ↦ inl with_line
          | inr other ↦ elim other [ inl memory ↦ inr (inl memory) | inr read ↦ inr (inr (read, one read)) ]
        ];
        feed_refused_untouched = λ why r. (refl, refl);
        journal_refused_exactly = λ start begins bytes told why due. inr (begun-early task none s e begins);
        not_refused = λ is start begins. ([], consumes_none left, refl);
        at_most = none_taken budget left;
        fewer = λ is. absurd (not-error tt s (sym is));
        ended = λ is. absurd (not-error tt s (sym is));
        ok = λ is. absurd (not-error tt s (sym is));
        front = inl (refl, not_late lines.WriteFault (λ h. h));
        untouched = λ well fault memory. refl;
        read_fault = λ is. inl (refl, refl, one is);
        write_fault = λ is. absurd (not_late lines.WriteFault (λ h. h) is);
        no_fault = λ not_read not_written. record { feed_reads = ap Some (e.answered not_read); input_reads = refl; writes = refl };
        too_long = λ is. absurd (not_late lines.TooLong (λ h. h) is);
      }

  -- where that is handed on
  pub follow-early-run : (run : Result (Unit {0}) Stop) (s : Stop) → IsErrAnd run (λ e. e ≡ s) → StopsEarly task words feed (after ≡ before) s
      → FollowEndsAs budget words feed (still left reads) (still written writes) before after input input out out run
  follow-early-run run s is early =
      subst (FollowEndsAs budget words feed (still left reads) (still written writes) before after input input out out) (is-err run s is) (follow-early s early)

-- a task that refuses nothing behind the feed
abbrev pub any_task : Task ServiceState
any_task = service_task times_output

no-refusal : (line : List ℕ) → ¬ (any_task.Refuses line)
no-refusal line is = is

module _ {F S K : Type 0} {budget : ℕ} {words : List (List ℕ)} {feed : FeedSeen} {left written : Option (List ℕ)} {reads writes : Faults} {before after : F} {input : S} {out : K} where
  -- the words are not read, and the feed is as it was
  pub follow-words-exit : {T : Type 0} (f : WordsFault) (s : Stop) → s ≡ words_stop f → feed.faults_after ≡ feed.faults → after ≡ before
      → (IsErrOf {T = T} (Err f) words_faults.Usage → asked_of words ≡ None)
      → FollowEndsAs budget words feed (still left reads) (still written writes) before after input input out out (Err s)
  follow-words-exit f s stop kept same usage =
      follow-early-run any_task no-refusal (Err s) (words_stop f) stop (early-words (λ absent. same) f kept (λ is. usage (ap Err is)))

  -- their feed is not loaded
  pub follow-load-exit : {T : Type 0} {a : Asked} → asked_of words ≡ Some a → (f : FeedError) (s : Stop) → IsFeedStop f s
      → ((told : Files) → feed.tables ≡ Some told → IsErrorOf f (asked_in told a))
      → (IsErrOf {T = T} (Err f) feeds.ReadFault → Some feed.faults_after ≡ counted feed.faults) → (¬ (IsErrOf {T = T} (Err f) feeds.ReadFault) → feed.faults_after ≡ feed.faults)
      → FollowEndsAs budget words feed (still left reads) (still written writes) before after input input out out (Err s)
  follow-load-exit asked f s stop exact failed answered =
      follow-early-run any_task no-refusal (Err s) s refl
      (early-feed asked f s stop exact (λ is. failed (ap Err is)) (λ other. answered (λ is. other (same-error _ _ _ refl is))))

  -- there is no memory for the header
  pub follow-memory-exit : {a : Asked} (run : Result (Unit {0}) Stop) → asked_of words ≡ Some a → IsErrAnd run (λ e. e ≡ Fault lines.OutOfMemory) → feed.faults_after ≡ feed.faults
      → FollowEndsAs budget words feed (still left reads) (still written writes) before after input input out out run
  follow-memory-exit {a = a} run asked is answered = follow-early-run any_task no-refusal run (Fault lines.OutOfMemory) is (early-memory (not-none words a asked) answered)

-- ---- when the journal is read

-- so far a journal is read by what was loaded
abbrev read_by : Asked → Network → Names → State → List ℕ → JournalProgress
read_by a nw names st bytes = replay_of (text_of_head (head_of a)) (first_service nw names st) bytes

-- an input was followed with this result
abbrev Took : ℕ → Asked → Network → Names → State → Option (List ℕ) → Option (List ℕ) → Result (TimetableState × Names) FollowFault → List ℕ → Type 0
Took budget a nw names st left left_now result bytes = IsJournalFollowed budget (text_of_head (head_of a)) (first_service nw names st) left left_now bytes result

-- by the header of this head, which is that of the words
pub taken-by : {words : List (List ℕ)} {tables : Option Files} {a : Asked} {nw : Network} {names : Names} {st : State} → WasLoaded words tables a nw st names → (budget : ℕ) (left left_now : Option (List ℕ)) (head : Head) (result : Result (TimetableState × Names) FollowFault)
    (bytes : List ℕ) → head ≡ head_of a → IsJournalFollowed budget (text_of_head head) (first_service nw names st) left left_now bytes result
    → Took budget a nw names st left left_now result bytes
taken-by {nw = nw} {names = names} {st = st} was budget left left_now head result bytes is took =
    subst (λ (h : Head). IsJournalFollowed budget (text_of_head h) (first_service nw names st) left left_now bytes result) is took

module _ {words : List (List ℕ)} {tables : Option Files} {a : Asked} {loaded : Network} {st : State} {names : Names} (was : WasLoaded words tables a loaded st names) where
  -- nothing of it is refused
  none-refused : (input : StreamSeen) (bytes : List ℕ) → Consumes input.bytes input.bytes_after bytes → (read_by a loaded names st bytes).refusal ≡ None → IsNotRefused words tables input
  none-refused input bytes source none start begins =
      (bytes, source, over-refusal begins.network (read_by a loaded names st bytes) (read_from start bytes) (read-loaded was begins bytes) ∙ none)

  -- it is refused so far
  refused-so : (budget : ℕ) (left_now : Option (List ℕ)) (bytes : List ℕ) (why : JournalRefusal) (start : FollowStart) → BeginsFollowing words tables start
      → IsRefusedSoFar budget left_now bytes (read_by a loaded names st bytes) why → IsRefusedSoFar budget left_now bytes (read_from start bytes) why
  refused-so budget left_now bytes why start begins so =
      over-so-far budget left_now bytes why begins.network (read_by a loaded names st bytes) (read_from start bytes) (read-loaded was begins bytes) so

  -- ---- and followed to its end

  module _ (budget : ℕ) (left left_now : Option (List ℕ)) (t : TimetableState) (others : Names) (bytes : List ℕ) (took : Took budget a loaded names st left left_now (Ok (t, others)) bytes)
      (start : FollowStart) (begins : BeginsFollowing words tables start) where
    -- nothing of it is to be refused
    end-not-refused : refusal_at_end (read_from start bytes) ≡ None
    end-not-refused = over-at-end begins.network (read_by a loaded names st bytes) (read_from start bytes) (read-loaded was begins bytes) ∙ took.answered.1

    not-due : (all : List ℕ) → left ≡ Some all → (why : JournalRefusal) → ¬ (IsJournalRefused budget start all why)
    not-due all told why due =
        whole-not-refused start budget all why (whole-taken start budget left left_now bytes all took.taken told took.answered.0 end-not-refused).1 due

    -- its table is that of the timetable that was given
    same-table : table t.network others t.state ≡ table_behind (read_from start bytes)
    same-table =
        table-at (read_by a loaded names st bytes) t others took.answered.2
        ∙ sym (over-table begins.network (read_by a loaded names st bytes) (read_from start bytes) (read-loaded was begins bytes) (alike-loaded was begins bytes))

  table-written : (Written : Option (List ℕ) → Option (List ℕ) → List ℕ → Type 0) (budget : ℕ) (input out : StreamSeen) (t : TimetableState) (others : Names) (bytes : List ℕ)
      → Took budget a loaded names st input.bytes input.bytes_after (Ok (t, others)) bytes → Written out.bytes out.bytes_after (table t.network others t.state)
      → WritesTable Written budget words tables input out
  table-written Written budget input out t others bytes took w start begins = (
    bytes,
    took.taken,
    took.answered.0,
    end-not-refused budget input.bytes input.bytes_after t others bytes took start begins,
    subst (Written out.bytes out.bytes_after) (same-table budget input.bytes input.bytes_after t others bytes took start begins) w,
  )

module _ {F S K : Type 0} {budget : ℕ} {words : List (List ℕ)} {feed : FeedSeen} {a : Asked} {loaded : Network} {st : State} {names : Names}
    (was : WasLoaded words feed.tables a loaded st names) (loads : feed.faults_after ≡ feed.faults) {input : StreamSeen} {feed_old feed_new : F} {input_old input_new : S} where
  -- ---- and not followed to its end

  module _ {left_out : Option (List ℕ)} {faults_out : Faults} {out : K} where
    -- its journal is refused
    journal-refused : (why : JournalRefusal) (line : _) (bytes : List ℕ) → Took budget a loaded names st input.bytes input.bytes_after (Err (follows.Refused why)) bytes → Some input.faults_after ≡ Some input.faults
        → IsFollowStop (follows.Refused why) (Refused line)
        → FollowEndsAs budget words feed input (still left_out faults_out) feed_old feed_new input_old input_new out out (stops (Refused line))
    journal-refused why line bytes took reads own = record {
      usage = λ is. absurd cc;
      usage_exactly = λ absent. not-none words a was.asked absent;
      usage_untouched = λ absent. not-none words a was.asked absent;
      refused = λ told is. inr (record {
        why = why;
        line_is = is ∙ own;
        can = took.answered.0;
        is = λ start begins. (
          bytes,
          took.taken,
          took.within,
          refused-so was budget input.bytes_after bytes why start begins took.answered.1,
        );
      });
      feed_refused_exactly = λ w r. absurd (not-refused was w r);
      feed_refused_untouched = λ w r. absurd (not-refused was w r);
      journal_refused_exactly = λ start begins all told other due.
          let so = refused-so was budget input.bytes_after bytes why start begins took.answered.1 in
          inl (ap journal_line (refused-for start budget input.bytes input.bytes_after bytes all why other took.taken told took.within so due) ∙ sym own);
      not_refused = λ is. elim is [ inl read ↦ absurd cc | inr long ↦ absurd cc ];
      at_most = (bytes, took.taken, took.within);
      fewer = λ is. absurd (not-error tt (Refused line) (sym is));
      ended = λ is. absurd (not-error tt (Refused line) (sym is));
      ok = λ is. absurd (not-error tt (Refused line) (sym is));
      front = inl (refl, λ is. absurd cc);
      untouched = λ well fault memory. refl;
      read_fault = λ is. absurd cc;
      write_fault = λ is. absurd cc;
      no_fault = λ not_read not_written. record { feed_reads = ap Some loads; input_reads = reads; writes = refl };
      too_long = λ is. absurd cc;
    }

    -- or there is a fault
    with-fault : (f : LinesFault) → f ≢ lines.WriteFault → ((start : FollowStart) → BeginsFollowing words feed.tables start → (all : List ℕ) → input.bytes ≡ Some all
        → (why : JournalRefusal) → IsJournalRefused budget start all why → (stops (Fault f) ≡ stops (Fault lines.OutOfMemory)) ⊎ (stops (Fault f) ≡ stops (Fault lines.ReadFault)))
        → ((f ≡ lines.ReadFault) ⊎ (f ≡ lines.TooLong) → IsNotRefused words feed.tables input) → TookAtMost budget input.bytes input.bytes_after
        → (f ≡ lines.ReadFault → InputReadFailed feed input (still left_out faults_out) × TookFewer budget input.bytes input.bytes_after)
        → (f ≢ lines.ReadFault → Some input.faults_after ≡ Some input.faults) → (f ≡ lines.TooLong → TookAll budget input.bytes input.bytes_after)
        → FollowEndsAs budget words feed input (still left_out faults_out) feed_old feed_new input_old input_new out out (stops (Fault f))
    with-fault f not_write exactly none most read quiet all = record {
      usage = λ is. absurd cc;
      usage_exactly = λ absent. not-none words a was.asked absent;
      usage_untouched = λ absent. not-none words a was.asked absent;
      refused = λ told is. absurd is;
      feed_refused_exactly = λ w r. absurd (not-refused was w r);
      feed_refused_untouched = λ w r. absurd (not-refused was w r);
      journal_refused_exactly = λ start begins bytes told why due. inr (exactly start begins bytes told why due);
      not_refused = λ is. none (elim is [ inl one ↦ inl (same-fault f lines.ReadFault one) | inr long ↦ inr (same-fault f lines.TooLong long) ]);
      at_most = most;
      fewer = λ is. absurd (not-error tt (Fault f) (sym is));
      ended = λ is. absurd (not-error tt (Fault f) (sym is));
      ok = λ is. absurd (not-error tt (Fault f) (sym is));
      front = inl (refl, λ is. not_write (same-fault f lines.WriteFault is));
      untouched = λ well fault memory. refl;
      read_fault = λ is. inr (read (same-fault f lines.ReadFault is));
      write_fault = λ is. absurd (not_write (same-fault f lines.WriteFault is));
      no_fault = λ not_read not_written. record {
        feed_reads = ap Some loads;
        input_reads = quiet (λ is. not_read (ap (λ (g : LinesFault). stops (Fault g)) is));
        writes = refl;
      };
      too_long = λ is. all (same-fault f lines.TooLong is);
    }

    want-of-memory : TookAtMost budget input.bytes input.bytes_after → Some input.faults_after ≡ Some input.faults
        → FollowEndsAs budget words feed input (still left_out faults_out) feed_old feed_new input_old input_new out out (stops (Fault lines.OutOfMemory))
    want-of-memory most quiet =
        with-fault lines.OutOfMemory (λ is. cc) (λ start begins all told why due. inl refl) (λ is. elim is [ inl one ↦ absurd cc | inr long ↦ absurd cc ]) most
        (λ is. absurd cc) (λ other. quiet) (λ is. absurd cc)

    -- where a run hands on why its journal is not followed to its end
    pub follow-stopped : (f : FollowFault) (s : Stop) → IsFollowStop f s → (bytes : List ℕ) → Took budget a loaded names st input.bytes input.bytes_after (Err f) bytes → Some input.faults_after ≡ reads_failed {T = TimetableState × Names} (Err f) input.faults
        → FollowEndsAs budget words feed input (still left_out faults_out) feed_old feed_new input_old input_new out out (stops s)
    follow-stopped (follows.Refused why) Usage is bytes took reads = absurd is
    follow-stopped (follows.Refused why) (Refused line) is bytes took reads = journal-refused why line bytes took reads is
    follow-stopped (follows.Refused why) (Fault f) is bytes took reads = rw is (want-of-memory (bytes, took.taken, took.within) reads)
    follow-stopped follows.ReadFault s is bytes took reads =
        rw is (with-fault lines.ReadFault (λ is. cc) (λ start begins all told why due. inr refl) (λ is. none-refused was input bytes took.taken took.answered.0) (bytes, took.taken, took.within)
        (λ is. (record { feed_reads = ap Some loads; input_reads = reads; writes = refl }, (bytes, took.taken, took.answered.1))) (λ other. absurd (other refl)) (λ is. absurd cc))
    follow-stopped follows.OutOfMemory s is bytes took reads = rw is (want-of-memory (bytes, took.taken, took.within) reads)
    follow-stopped follows.TooLong s is bytes took reads =
        rw is (with-fault lines.TooLong (λ is. cc)
        (λ start begins all told why due.
        let none : (read_from start bytes).refusal ≡ None = over-refusal begins.network (read_by a loaded names st bytes) (read_from start bytes) (read-loaded was begins bytes) ∙ took.answered.0 in
        absurd (long-not-refused start budget all why (long-taken start budget input.bytes input.bytes_after bytes all took.taken told took.answered.1 none) due))
        (λ is. none-refused was input bytes took.taken took.answered.0) (bytes, took.taken, took.within) (λ is. absurd cc) (λ other. reads) (λ is. (bytes, took.taken, took.answered.1)))

  -- ---- and followed to its end

  module _ {t : TimetableState} {others : Names} {bytes : List ℕ} (took : Took budget a loaded names st input.bytes input.bytes_after (Ok (t, others)) bytes)
      (quiet : Some input.faults_after ≡ Some input.faults) {out : StreamSeen} {out_old out_new : K} where
    wrote-all : Appends out.bytes out.bytes_after (table t.network others t.state) → Some out.faults_after ≡ Some out.faults
        → FollowEndsAs budget words feed input out feed_old feed_new input_old input_new out_old out_new (Ok tt)
    wrote-all w writes = record {
      usage = λ is. absurd (not-error tt Usage is);
      usage_exactly = λ absent. not-none words a was.asked absent;
      usage_untouched = λ absent. not-none words a was.asked absent;
      refused = λ line is. absurd is;
      feed_refused_exactly = λ why r. absurd (not-refused was why r);
      feed_refused_untouched = λ why r. absurd (not-refused was why r);
      journal_refused_exactly = λ start begins all told why due. absurd (not-due was budget input.bytes input.bytes_after t others bytes took start begins all told why due);
      not_refused = λ is. elim is [ inl read ↦ absurd (not-error tt (Fault lines.ReadFault) read) | inr long ↦ absurd (not-error tt (Fault lines.TooLong) long) ];
      at_most = (bytes, took.taken, took.within);
      fewer = λ is. (bytes, took.taken, took.answered.0.fewer);
      ended = λ is. took.answered.0.left;
      ok = λ is. table-written was Appends budget input out t others bytes took w;
      front = inr (table-written was (AppendsFront _) budget input out t others bytes took (front_all (λ is. not-error tt (Fault lines.WriteFault) is) out.bytes out.bytes_after (table t.network others t.state) w));
      untouched = λ well fault memory. absurd (well refl);
      read_fault = λ is. absurd (not-error tt (Fault lines.ReadFault) is);
      write_fault = λ is. absurd (not-error tt (Fault lines.WriteFault) is);
      no_fault = λ not_read not_written. record { feed_reads = ap Some loads; input_reads = quiet; writes = writes };
      too_long = λ is. absurd (not-error tt (Fault lines.TooLong) is);
    }

    wrote-front : (f : LinesFault) → IsNotOfInput f → AppendsFront (f ≡ lines.WriteFault) out.bytes out.bytes_after (table t.network others t.state)
        → Some out.faults_after ≡ writes_failed {T = Unit {0}} (Err f) out.faults → (IsErrOf {T = Unit {0}} (Err f) lines.WriteFault → IsFull out.faults_after out.bytes_after)
        → FollowEndsAs budget words feed input out feed_old feed_new input_old input_new out_old out_new (stops (Fault f))
    wrote-front lines.ReadFault of_output w writes full = absurd of_output
    wrote-front lines.TooLong of_output w writes full = absurd of_output
    wrote-front lines.WriteFault of_output w writes full = record {
      usage = λ is. absurd cc;
      usage_exactly = λ absent. not-none words a was.asked absent;
      usage_untouched = λ absent. not-none words a was.asked absent;
      refused = λ line is. absurd is;
      feed_refused_exactly = λ why r. absurd (not-refused was why r);
      feed_refused_untouched = λ why r. absurd (not-refused was why r);
      journal_refused_exactly = λ start begins all told why due. absurd (not-due was budget input.bytes input.bytes_after t others bytes took start begins all told why due);
      not_refused = λ is. elim is [ inl read ↦ absurd cc | inr long ↦ absurd cc ];
      at_most = (bytes, took.taken, took.within);
      fewer = λ is. absurd (not-error tt (Fault lines.WriteFault) (sym is));
      ended = λ is. absurd (not-error tt (Fault lines.WriteFault) (sym is));
      ok = λ is. absurd (not-error tt (Fault lines.WriteFault) (sym is));
      front = inr (table-written was (AppendsFront _) budget input out t others bytes took (front_if (λ is. refl) out.bytes out.bytes_after (table t.network others t.state) w));
      untouched = λ well fault memory. absurd (fault refl);
      read_fault = λ is. absurd cc;
      write_fault = λ is. (record { feed_reads = ap Some loads; input_reads = quiet; writes = writes }, full refl);
      no_fault = λ not_read not_written. absurd (not_written refl);
      too_long = λ is. absurd cc;
    }
    wrote-front lines.OutOfMemory of_output w writes full = record {
      usage = λ is. absurd cc;
      usage_exactly = λ absent. not-none words a was.asked absent;
      usage_untouched = λ absent. not-none words a was.asked absent;
      refused = λ line is. absurd is;
      feed_refused_exactly = λ why r. absurd (not-refused was why r);
      feed_refused_untouched = λ why r. absurd (not-refused was why r);
      journal_refused_exactly = λ start begins all told why due. absurd (not-due was budget input.bytes input.bytes_after t others bytes took start begins all told why due);
      not_refused = λ is. elim is [ inl read ↦ absurd cc | inr long ↦ absurd cc ];
      at_most = (bytes, took.taken, took.within);
      fewer = λ is. absurd (not-error tt (Fault lines.OutOfMemory) (sym is));
      ended = λ is. absurd (not-error tt (Fault lines.OutOfMemory) (sym is));
      ok = λ is. absurd (not-error tt (Fault lines.OutOfMemory) (sym is));
      front = inr (table-written was (AppendsFront _) budget input out t others bytes took (front_if (λ is. absurd cc) out.bytes out.bytes_after (table t.network others t.state) w));
      untouched = λ well fault memory. absurd (memory refl);
      read_fault = λ is. absurd cc;
      write_fault = λ is. absurd cc;
      no_fault = λ not_read not_written. record { feed_reads = ap Some loads; input_reads = quiet; writes = writes };
      too_long = λ is. absurd cc;
    }

    -- where a run writes the table
    pub follow-written : (run : Result (Unit {0}) LinesFault) (result : Result (Unit {0}) Stop) → result ≡ run_of run
        → OnOk run (Appends out.bytes out.bytes_after (table t.network others t.state))
        → IfErr run (λ f. AppendsFront (f ≡ lines.WriteFault) out.bytes out.bytes_after (table t.network others t.state)) → IfErr run IsNotOfInput
        → Some out.faults_after ≡ writes_failed run out.faults → (IsErrOf run lines.WriteFault → IsFull out.faults_after out.bytes_after)
        → FollowEndsAs budget words feed input out feed_old feed_new input_old input_new out_old out_new result
    follow-written run result is ok front fault writes full =
        subst (FollowEndsAs budget words feed input out feed_old feed_new input_old input_new out_old out_new) (sym is) (by-run run ok front fault writes full) where
          by-run : (run : Result (Unit {0}) LinesFault) → OnOk run (Appends out.bytes out.bytes_after (table t.network others t.state))
              → IfErr run (λ f. AppendsFront (f ≡ lines.WriteFault) out.bytes out.bytes_after (table t.network others t.state)) → IfErr run IsNotOfInput
              → Some out.faults_after ≡ writes_failed run out.faults → (IsErrOf run lines.WriteFault → IsFull out.faults_after out.bytes_after)
              → FollowEndsAs budget words feed input out feed_old feed_new input_old input_new out_old out_new (run_of run)
          by-run (Ok u) ok front fault writes full = wrote-all ok writes
          by-run (Err f) ok front fault writes full = wrote-front f fault front writes full
