-- The exits of a run that reads its words, loads their feed and answers lines.
use Rattle.std.proofs.Common.{◌≡◌, ◌⊎◌, ℕ, List, [], Option, Some, None, Result, Err, ap, refl, true, false, inl}
use Rattle.std.specs.Io.KnownBytes.{Consumes, IsAtEnd}
use Rattle.std.specs.Result.{IfErr, IsErrOf, OnOk}
use Rattle.command_words.specs.declared.words.WordsFault.{WordsFault}
use Rattle.command_words.specs.declared.words.WordsFault.TheVariants as words_faults
use Rattle.command_words.specs.Words.{Asked, asked_of}
use Rattle.gtfs_tables.specs.declared.refusals.FeedError.{FeedError}
use Rattle.gtfs_tables.specs.declared.refusals.FeedError.TheVariants as feeds
use Rattle.gtfs_tables.specs.Feeds.{Files}
use Rattle.gtfs_tables.specs.Refusals.{IsErrorOf}
use Rattle.information_service.specs.Causes.{WhereLinesStop}
use Rattle.information_service.specs.declared.fault.LinesFault.{LinesFault}
use Rattle.information_service.specs.declared.fault.LinesFault.TheVariants as lines
use Rattle.information_service.specs.Fronts.{AppendsAll, AppendsTakenFront}
use Rattle.information_service.proofs.Fronts.{all_as, taken_as}
use Rattle.mt_io.specs.Causes.{Faults, counted}
use Rattle.mt_io.specs.Lines.{Line, lines_of}
use Rattle.commands.specs.Beginnings.{IsBegun}
use Rattle.commands.specs.Contract.{EndsAs}
use Rattle.commands.specs.Feeds.{asked_in}
use Rattle.commands.specs.Seen.{FeedSeen, StreamSeen}
use Rattle.commands.specs.Statuses.{IsFeedStop, run_of, words_stop}
use Rattle.commands.specs.Tasks.{Task}
use Rattle.commands.specs.declared.status.Stop.{Stop}
use Rattle.commands.proofs.Endings.{Counts, early-feed, early-run, early-words, lines-end, same-error, still, stopped-also}
use Rattle.commands.proofs.Tables.{WritesNothing}

module _ {B F S K : Type 0} {task : Task B} (none : WritesNothing task) {budget : ℕ} {words : List (List ℕ)} {feed : FeedSeen}
    {left written : Option (List ℕ)} {reads writes : Faults} {before after : F} {input : S} {out : K} where
  -- the words are not read, and the feed is as it was
  pub words-exit : {T : Type 0} (f : WordsFault) (s : Stop) → s ≡ words_stop f → feed.faults_after ≡ feed.faults → after ≡ before
      → (IsErrOf {T = T} (Err f) words_faults.Usage → asked_of words ≡ None)
      → EndsAs task budget words feed (still left reads) (still written writes) before after input input out out (Err s)
  words-exit f s stop kept same usage = early-run none (Err s) _ stop (early-words (λ absent. same) f kept (λ is. usage (ap Err is)))

  -- their feed is not loaded
  pub load-exit : {T : Type 0} {a : Asked} → asked_of words ≡ Some a → (f : FeedError) (s : Stop) → IsFeedStop f s
      → ((told : Files) → feed.tables ≡ Some told → IsErrorOf f (asked_in told a))
      → (IsErrOf {T = T} (Err f) feeds.ReadFault → Some feed.faults_after ≡ counted feed.faults) → (¬ (IsErrOf {T = T} (Err f) feeds.ReadFault) → feed.faults_after ≡ feed.faults)
      → EndsAs task budget words feed (still left reads) (still written writes) before after input input out out (Err s)
  load-exit asked f s stop exact failed answered =
      early-run none (Err s) s refl (early-feed asked f s stop exact (λ is. failed (ap Err is)) (λ other. answered (λ is. other (same-error _ _ _ refl is))))

-- the lines end or stop, of a command that may have written nothing where nothing was read
pub kept-end : {B F S K : Type 0} {task : Task B} {budget : ℕ} {words : List (List ℕ)} {feed : FeedSeen} {input out : StreamSeen}
    {feed_old feed_new : F} {input_old input_new : S} {out_old out_new : K} {IsAll First : List Line → List ℕ → Type 0}
    → IsBegun task words feed.tables IsAll (λ ls bytes. First ls bytes ⊎ ((ls ≡ []) × (bytes ≡ []))) → feed.faults_after ≡ feed.faults
    → (result : Result (Unit {0}) Stop) (run : Result (Unit {0}) LinesFault) → result ≡ run_of run
    → OnOk run ((bytes : List ℕ) → input.bytes ≡ Some bytes → AppendsAll (IsAll (lines_of true bytes)) out.bytes out.bytes_after) → OnOk run (IsAtEnd input.bytes_after)
    → IfErr run (WhereLinesStop ((bytes : List ℕ) × Consumes input.bytes input.bytes_after bytes × AppendsAll (First (lines_of false bytes)) out.bytes out.bytes_after))
    → AppendsTakenFront (IsErrOf run lines.WriteFault) IsAll First budget input.bytes input.bytes_after out.bytes out.bytes_after
    → Counts budget input out run → EndsAs task budget words feed input out feed_old feed_new input_old input_new out_old out_new result
kept-end begun loads result run is whole end stopped front counts =
    let stopped_so = stopped-also run (λ had. (had.0, had.1, all_as (λ bytes b. inl b) had.2)) stopped in
    lines-end begun loads result run is whole end stopped_so (taken_as (λ ls bytes w. w) (λ ls bytes b. inl b) front) counts
