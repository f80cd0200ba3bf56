-- The status of a run of `follow`, by how it ended.
use Rattle.std.proofs.Common.{◌≡◌, ◌∙◌, ◌⊎◌, ◌++◌, ℕ, List, Some, Result, Ok, Err, refl, sym, ap, subst, inl, inr, arith}
use Rattle.std.proofs.lemmas.List.{length-append}
use Rattle.std.proofs.lemmas.Option.{none-some}
use Rattle.information_service.proofs.Fronts.{front_if}
use Rattle.information_service.specs.Fronts.{AppendsFront}
use Rattle.information_service.specs.declared.fault.LinesFault.TheVariants as lines
use Rattle.journal_replay.specs.declared.refusal.JournalRefusal.{JournalRefusal}
use Rattle.commands.specs.Failing.{FeedReadFailed, HasRoom, InputReadFailed, Tells, WriteFailed}
use Rattle.commands.specs.FollowContract.{FollowEndsAs, IsTableFront, KeepsFollowPromises, MeetsFollowContract, NoFollowFails}
use Rattle.commands.specs.FollowTasks.{BeginsFollowing, CanBeFollowed, FollowStart, IsJournalRefused, WritesTable, read_from, table_behind}
use Rattle.commands.specs.Promises.{status_ends}
use Rattle.commands.specs.Seen.{FeedSeen, StreamSeen}
use Rattle.commands.specs.Statuses.{run_line, run_status}
use Rattle.commands.specs.declared.status.Status.{Status}
use Rattle.commands.specs.declared.status.Stop.{Stop}
use Rattle.commands.specs.declared.status.Stop.TheVariants.{Usage, Refused, Fault}
use Rattle.commands.proofs.Failing.{full-by, more-of, never-counted, rose, same-room, told-after}
use Rattle.commands.proofs.FollowEndings.{holds-not-refused}
use Rattle.commands.proofs.FollowReading.{long-not-refused, refused-taken, whole-not-refused, whole-taken}
use Rattle.commands.proofs.Statuses.{ended-well, few-taken, had-usage, is-refused, not-full, read-failed, told-line, was-long, was-refused, write-failed}

module _ {budget : ℕ} {words : List (List ℕ)} {feed : FeedSeen} {input out : StreamSeen} where
  -- where nothing fails, no read did
  no-read : {one other early : Type 0} → NoFollowFails budget words feed input out → (one × other × FeedReadFailed feed input out) ⊎ (InputReadFailed feed input out × early) → ⊥
  no-read (inl none) (inl of_feed) = none.feed_reads (rose feed.faults.can feed.faults.count feed.faults_after.count feed.faults_after.can of_feed.2.feed_reads)
  no-read (inl none) (inr of_input) = none.input_reads (rose input.faults.can input.faults.count input.faults_after.count input.faults_after.can of_input.0.input_reads)
  no-read (inr cannot) (inl of_feed) = never-counted feed.faults feed.faults_after cannot.feed_reads of_feed.2.feed_reads
  no-read (inr cannot) (inr of_input) = never-counted input.faults input.faults_after cannot.input_reads of_input.0.input_reads

  module _ {Failed : Type 0} {start : FollowStart} (begins : BeginsFollowing words feed.tables start) {all : List ℕ} (told : input.bytes ≡ Some all) where
    -- an output that has room for the table is not full before its end
    has-room : WritesTable (AppendsFront Failed) budget words feed.tables input out → HasRoom (IsTableFront budget words feed.tables input.bytes out.bytes) out
        → WriteFailed feed input out → Failed → ⊥
    has-room writes room failed is =
        let w = writes start begins in
        let whole = whole-taken start budget input.bytes input.bytes_after w.0 all w.1 told w.2 w.3 in
        let front : AppendsFront Failed out.bytes out.bytes_after (table_behind (read_from start all)) =
        subst (λ (l : List ℕ). AppendsFront Failed out.bytes out.bytes_after (table_behind (read_from start l))) whole.0 w.4 in
        let now = told-after out.bytes out.bytes_after room.held front.front room.told front.written in
        let more = more-of out.bytes now.0 (table_behind (read_from start all)) is (rw now.1 at front) in
        let full = full-by room.room out.faults_after now.0 (same-room room.room out.faults out.faults_after room.can failed.0.writes) (rw now.1 at failed.1) in
        absurd (omega (
          arith,
          full,
          more.1,
          length-append now.0 more.0,
          room.fits (now.0 ++ more.0)
              (record { start = start; begins = begins; bytes = all; told = told; is = (whole.1, more.2) }),
        ))

    -- and no write did
    no-write : {Same : Type 0} → (Same × ¬ Failed) ⊎ WritesTable (AppendsFront Failed) budget words feed.tables input out → NoFollowFails budget words feed input out
        → Failed → WriteFailed feed input out → ⊥
    no-write front (inl none) is failed = none.writes (rose out.faults.can out.faults.count out.faults_after.count out.faults_after.can failed.0.writes)
    no-write (inl nothing) (inr cannot) is failed = nothing.1 is
    no-write (inr writes) (inr cannot) is failed = elim cannot.writes [
      | inl never_fails ↦ never-counted out.faults out.faults_after never_fails failed.0.writes
      | inr room ↦ has-room writes room failed is
    ]

module _ {F S K : Type 0} {budget : ℕ} {words : List (List ℕ)} {feed : FeedSeen} {input out : StreamSeen}
    {feed_old feed_new : F} {input_old input_new : S} {out_old out_new : K} where
  -- a run that has something to begin with, whose journal is not to be refused, and in which nothing
  -- fails, goes well, or there is no memory, or the input is too long
  unhindered : (run : Result (Unit {0}) Stop) → FollowEndsAs budget words feed input out feed_old feed_new input_old input_new out_old out_new run
      → CanBeFollowed words feed.tables input.bytes (λ start bytes. (why : JournalRefusal) → ¬ (IsJournalRefused budget start bytes why)) → NoFollowFails budget words feed input out
      → (run ≡ Ok tt) ⊎ (run ≡ Err (Fault lines.OutOfMemory)) ⊎ (run ≡ Err (Fault lines.TooLong))
  unhindered (Ok u) p can none = inl refl
  unhindered (Err Usage) p can none = absurd (none-some can.begins.loads.asked (sym (p.usage refl) ∙ can.begins.loads.asked_is))
  unhindered (Err (Refused told)) p can none = elim (p.refused told.items refl) [
    | inl of_feed ↦ absurd (holds-not-refused can.begins.loads of_feed.0.why (of_feed.0.is can.begins.loads.told can.begins.loads.told_is))
    | inr says ↦
        let so = says.is can.start can.begins in
        absurd (can.is says.why (refused-taken can.start budget input.bytes input.bytes_after so.0 can.bytes says.why so.1 can.told so.2 so.3))
  ]
  unhindered (Err (Fault lines.ReadFault)) p can none = absurd (no-read none (p.read_fault refl))
  unhindered (Err (Fault lines.WriteFault)) p can none = absurd (no-write can.begins can.told p.front none refl (p.write_fault refl))
  unhindered (Err (Fault lines.OutOfMemory)) p can none = inr (inl refl)
  unhindered (Err (Fault lines.TooLong)) p can none = inr (inr refl)

  -- what holds of a run with a result holds of one with its status
  follow-promises : (run : Result (Unit {0}) Stop) → FollowEndsAs budget words feed input out feed_old feed_new input_old input_new out_old out_new run
      → KeepsFollowPromises (status_ends (run_status run) (run_line run)) budget words feed input out feed_old feed_new input_old input_new out_old out_new
  follow-promises run p = record {
    usage = λ is. p.usage (had-usage run is);
    usage_exactly = λ no. elim (p.usage_exactly no) [ inl is ↦ inl (ap run_status is) | inr is ↦ inr (ap run_status is) ];
    usage_untouched = p.usage_untouched;
    refused = λ line is. p.refused line (was-refused run line is);
    feed_refused_exactly = λ why r. elim (p.feed_refused_exactly why r) [
      | inl is ↦ inl (is-refused run _ is)
      | inr other ↦ elim other [ inl is ↦ inr (inl (ap run_status is)) | inr read ↦ inr (inr (ap run_status read.0, read.1)) ]
    ];
    feed_refused_untouched = p.feed_refused_untouched;
    journal_refused_exactly = λ start begins bytes told why due. elim (p.journal_refused_exactly start begins bytes told why due) [
      | inl is ↦ inl (is-refused run _ is)
      | inr other ↦ elim other [ inl is ↦ inr (inl (ap run_status is)) | inr read ↦ inr (inr (ap run_status read)) ]
    ];
    not_refused = λ is. p.not_refused (elim is [ inl read ↦ inl (read-failed run read) | inr long ↦ inr (was-long run long) ]);
    at_most = p.at_most;
    fewer = λ is. p.fewer (ended-well run is);
    ended = λ is. p.ended (ended-well run is);
    ok = λ is. p.ok (ended-well run is);
    front = elim p.front [
      | inl nothing ↦ inl (nothing.0, λ is. nothing.1 (write-failed run is))
      | inr writes ↦ inr (λ start begins.
          let w = writes start begins in
          (w.0, w.1, w.2, w.3, front_if (write-failed run) out.bytes out.bytes_after (table_behind (read_from start w.0)) w.4))
    ];
    untouched = λ well fault memory. p.untouched (λ is. well (ap run_status is)) (λ is. fault (ap run_status is)) (λ is. memory (ap run_status is));
    read_fault = λ is. p.read_fault (read-failed run is);
    write_fault = λ is. p.write_fault (write-failed run is);
    no_fault = λ not_read not_written. p.no_fault (λ is. not_read (ap run_status is)) (λ is. not_written (ap run_status is));
    too_long = λ is. p.too_long (was-long run is);
  }

  -- a run whose end is told meets the contract of `follow`
  pub follow-contract-met : {err : StreamSeen} (run : Result (Unit {0}) Stop) (s : Status)
      → FollowEndsAs budget words feed input out feed_old feed_new input_old input_new out_old out_new run → s ≡ run_status run → Tells err (run_line run)
      → MeetsFollowContract budget words feed input out err feed_old feed_new input_old input_new out_old out_new s
  follow-contract-met {err = err} run s p status told = subst (MeetsFollowContract budget words feed input out err feed_old feed_new input_old input_new out_old out_new) (sym status) (record {
    line = run_line run;
    told = told;
    error_line = told-line run;
    promises = follow-promises run p;
    too_long_exactly = λ can none. elim (unhindered run p
        (record { start = can.start; begins = can.begins; bytes = can.bytes; told = can.told; is = λ why. long-not-refused can.start budget can.bytes why can.is }) none) [
          | inl well ↦ absurd (not-full budget input.bytes input.bytes_after can.bytes can.told can.is.0 (p.ended well) (p.fewer well))
          | inr other ↦ elim other [ inl memory ↦ inr (ap run_status memory) | inr long ↦ inl (ap run_status long) ]
        ];
    complete = λ can none. elim (unhindered run p
        (record { start = can.start; begins = can.begins; bytes = can.bytes; told = can.told; is = λ why. whole-not-refused can.start budget can.bytes why can.is }) none) [
          | inl well ↦ inl (ap run_status well)
          | inr other ↦ elim other [
            | inl memory ↦ inr (ap run_status memory)
            | inr long ↦ (let took = p.too_long long in absurd (omega (arith, few-taken input.bytes input.bytes_after took.0 can.bytes took.1 can.told, took.2, can.is.0)))
          ]
        ];
  })
