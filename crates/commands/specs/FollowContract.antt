-- What `follow` promises of each run, whatever its feed, its input and its outputs do.
use Rattle.std.specs.Prelude.{ℕ, ◌≡◌, ◌≢◌, ◌⊎◌, List, None, Some, Result}
use Rattle.std.specs.declared.option.Option.{Option}
use Rattle.std.specs.Io.KnownBytes.{Appends, IsAtEnd}
use Rattle.command_words.specs.Words.{asked_of}
use Rattle.gtfs_tables.specs.declared.refusals.FeedRefusal.{FeedRefusal}
use Rattle.gtfs_tables.specs.Feeds.{Files}
use Rattle.information_service.specs.Causes.{TookAll, TookAtMost, TookFewer}
use Rattle.information_service.specs.Fronts.{AppendsFront}
use Rattle.journal_replay.specs.declared.refusal.JournalRefusal.{JournalRefusal}
use Rattle.mt_io.specs.Causes.{never}
use Rattle.commands.specs.Failing.{FeedReadFailed, InputReadFailed, NoneRose, NothingFailed}
use Rattle.commands.specs.Failing.{Tells, WriteFailed, WritesCannotFail}
use Rattle.commands.specs.FollowTasks.{BeginsFollowing, CanBeFollowed, FollowStart}
use Rattle.commands.specs.FollowTasks.{IsJournalRefused, IsNotRefused, IsTooLong, IsWhole}
use Rattle.commands.specs.FollowTasks.{SaysWhyFeed, SaysWhyJournal, WritesTable, read_from}
use Rattle.commands.specs.FollowTasks.{table_behind}
use Rattle.commands.specs.OwnLoads.{journal_line}
use Rattle.commands.specs.Promises.{Ends, run_ends, status_ends}
use Rattle.commands.specs.Runs.{IsFeedRefused}
use Rattle.commands.specs.Seen.{FeedSeen, StreamSeen}
use Rattle.commands.specs.Statuses.{error_line, refusal_line}
use Rattle.commands.specs.declared.status.Status.{Status}
use Rattle.commands.specs.declared.status.Status.TheVariants.{Ok, FeedRefused, OutOfMemory, TooLong}
use Rattle.commands.specs.declared.status.Stop.{Stop}

-- What is promised of a run of `follow` that has ended in one of these ways. The run had these
-- words; it found the feed, the input and the output as the first of each pair and left them as the
-- second
pub record KeepsFollowPromises {F S K : Type 0} (ends : Ends) (budget : ℕ)
    (words : List (List ℕ)) (feed : FeedSeen) (input out : StreamSeen)
    (feed_old feed_new : F) (input_old input_new : S) (out_old out_new : K) : Type 0 where
  -- ---- words

  -- it ends for words that ask for nothing where they are such words
  pub usage : ends.usage → asked_of words ≡ None
  -- and for all of them, unless there is no memory
  pub usage_exactly : asked_of words ≡ None → ends.usage ⊎ ends.out_of_memory
  -- such words touch nothing
  pub usage_untouched : asked_of words ≡ None → (feed_new ≡ feed_old)
      × (input_new ≡ input_old) × (out_new ≡ out_old)
  -- ---- the feed and the journal

  -- where it is refused the line says why: for the feed, and nothing was read from the input; or
  -- for the journal
  pub refused : (line : List ℕ) → ends.refused line
      → (SaysWhyFeed words feed.tables line × (input_new ≡ input_old))
      ⊎ SaysWhyJournal budget words feed.tables input line
  -- a feed that is to be refused is refused with its line, unless a read of it fails or there is no
  -- memory
  pub feed_refused_exactly : (why : FeedRefusal) → IsFeedRefused words feed.tables why
      → ends.refused (refusal_line why) ⊎ ends.out_of_memory
      ⊎ (ends.read_fault × FeedReadFailed feed input out)
  -- however the run ends, such a feed leaves the input and the output as they were
  pub feed_refused_untouched : (why : FeedRefusal) → IsFeedRefused words feed.tables why
      → (input_new ≡ input_old) × (out_new ≡ out_old)
  -- a journal that is to be refused is refused with its line, unless a read fails or there is no
  -- memory
  pub journal_refused_exactly : (start : FollowStart) → BeginsFollowing words feed.tables start
      → (bytes : List ℕ) → input.bytes ≡ Some bytes → (why : JournalRefusal)
      → IsJournalRefused budget start bytes why
      → ends.refused (journal_line why) ⊎ ends.out_of_memory ⊎ ends.read_fault
  -- where a read failed or the input is too long, nothing among the bytes taken is refused
  pub not_refused : ends.read_fault ⊎ ends.too_long → IsNotRefused words feed.tables input
  -- ---- the input

  -- no more bytes are taken than may be, and where all went well fewer
  pub at_most : TookAtMost budget input.bytes input.bytes_after
  pub fewer : ends.well → TookFewer budget input.bytes input.bytes_after
  -- then the input is at its end
  pub ended : ends.well → IsAtEnd input.bytes_after
  -- ---- the output

  -- all went well: nothing of the journal is refused, and the table of all times behind it is
  -- written
  pub ok : ends.well → WritesTable Appends budget words feed.tables input out
  -- however the run ended, nothing was written, or a front of this table; where a write failed it
  -- is not all of that
  pub front : ((out_new ≡ out_old) × ¬ ends.write_fault)
      ⊎ WritesTable (AppendsFront ends.write_fault) budget words feed.tables input out
  -- nothing was written, unless all went well, a write failed or there was no memory
  pub untouched : ¬ ends.well → ¬ ends.write_fault → ¬ ends.out_of_memory → out_new ≡ out_old
  -- ---- faults

  -- the run stops at its first fault: a read fault comes where one read of the feed failed, before
  -- anything was read of the input, or one read of the input, of which fewer bytes were taken than
  -- may be, and nothing else failed
  pub read_fault : ends.read_fault → ((input_new ≡ input_old) × (out_new ≡ out_old)
      × FeedReadFailed feed input out)
      ⊎ (InputReadFailed feed input out × TookFewer budget input.bytes input.bytes_after)
  -- a write fault comes where one write of the output failed, and nothing else
  pub write_fault : ends.write_fault → WriteFailed feed input out
  -- and where it ends in another way nothing failed
  pub no_fault : ¬ ends.read_fault → ¬ ends.write_fault → NothingFailed feed input out
  -- the input is too long where as many bytes were taken as may be
  pub too_long : ends.too_long → TookAll budget input.bytes input.bytes_after

-- how a run of `follow` ends, before its status is told: with this result
abbrev pub FollowEndsAs : {F S K : Type 0} → ℕ → List (List ℕ) → FeedSeen → StreamSeen
    → StreamSeen → F → F → S → S → K → K → Result (Unit {0}) Stop → Type 0
FollowEndsAs budget words feed input out feed_old feed_new input_old input_new out_old out_new run =
    KeepsFollowPromises (run_ends run) budget words feed input out feed_old feed_new input_old
    input_new out_old out_new

-- ---- what does not fail

-- these bytes of an output are those before the run and a front of the table of all times behind a
-- journal that the input holds, with fewer bytes than may be taken and nothing to be refused
abbrev pub IsTableFront : ℕ → List (List ℕ) → Option Files → Option (List ℕ) → Option (List ℕ)
    → Option (List ℕ) → Type 0
IsTableFront budget words tables left written written_now = CanBeFollowed words tables left
    (λ start bytes. IsWhole budget start bytes
    × AppendsFront ⊥ written written_now (table_behind (read_from start bytes)))

-- no read of the feed or the input can fail, and no write of the output
pub record FollowCannotFail (budget : ℕ) (words : List (List ℕ)) (feed : FeedSeen)
    (input out : StreamSeen) : Type 0 where
  pub feed_reads : feed.faults.can ≡ never
  pub input_reads : input.faults.can ≡ never
  pub writes : WritesCannotFail (IsTableFront budget words feed.tables input.bytes out.bytes) out

-- nothing fails: as the counts of the run tell, or since nothing can
abbrev pub NoFollowFails : ℕ → List (List ℕ) → FeedSeen → StreamSeen → StreamSeen → Type 0
NoFollowFails budget words feed input out =
    NoneRose feed input out ⊎ FollowCannotFail budget words feed input out

-- ---- the contract

-- The contract of `follow`. The run had these words; it found the feed, the input, the output and
-- the error stream as the first of each pair and left them as the second; and it ended with this
-- status
pub record MeetsFollowContract {F S K : Type 0} (budget : ℕ) (words : List (List ℕ))
    (feed : FeedSeen) (input out err : StreamSeen) (feed_old feed_new : F)
    (input_old input_new : S) (out_old out_new : K) (status : Status) : Type 0 where
  -- what the error stream is told: the line of the status, and where the run is refused a line that
  -- says why
  pub line : List ℕ
  pub told : Tells err line
  pub error_line : status ≢ FeedRefused → line ≡ error_line status
  -- all that is promised of a run with this status, of which the error stream was told this line
  pub promises : KeepsFollowPromises (status_ends status line) budget words feed input out
      feed_old feed_new input_old input_new out_old out_new
  -- words that ask for a feed that holds a timetable, a journal with as many bytes as may be taken
  -- or more, among which nothing is to be refused, and nothing that fails: the input is too long,
  -- unless there is no memory
  pub too_long_exactly : CanBeFollowed words feed.tables input.bytes (IsTooLong budget)
      → NoFollowFails budget words feed input out
      → (status ≡ TooLong) ⊎ (status ≡ OutOfMemory)
  -- words that ask for a feed that holds a timetable, a journal with fewer bytes than may be taken
  -- that is not to be refused, and nothing that fails: all goes well, unless there is no memory
  pub complete : CanBeFollowed words feed.tables input.bytes (IsWhole budget)
      → NoFollowFails budget words feed input out → (status ≡ Ok) ⊎ (status ≡ OutOfMemory)
