-- What a run finds of its feed, its input and its outputs, and how it leaves them.
use Rattle.std.specs.Prelude.{ℕ, List}
use Rattle.std.specs.declared.option.Option.{Option}
use Rattle.gtfs_tables.specs.Feeds.{Files}
use Rattle.mt_io.specs.Causes.{Faults}

-- a feed, as a run finds it and leaves it
pub record FeedSeen : Type 0 where
  -- its files, where the feed tells them
  pub tables : Option Files
  -- how often it had failed when the run began, and when it had ended, and when it can
  pub faults : Faults
  pub faults_after : Faults

-- a feed that was the first before the run and the second after it, by what it tells
abbrev pub feed_seen : {F : Type 0} → (F → Option Files) → (F → Faults) → F → F → FeedSeen
feed_seen tables faults old new =
    record { tables = tables old; faults = faults old; faults_after = faults new }

-- the input, the output or the error stream, as a run finds it and leaves it
pub record StreamSeen : Type 0 where
  -- the bytes before the run and after it, where the stream tells them: those that are left to take
  -- from an input, or those that were written to an output
  pub bytes : Option (List ℕ)
  pub bytes_after : Option (List ℕ)
  -- how often it had failed when the run began, and when it had ended, and when it can
  pub faults : Faults
  pub faults_after : Faults

-- a stream that was the first before the run and the second after it, by what it tells
abbrev pub stream_seen : {S : Type 0} → (S → Option (List ℕ)) → (S → Faults) → S → S → StreamSeen
stream_seen bytes faults old new = record {
  bytes = bytes old;
  bytes_after = bytes new;
  faults = faults old;
  faults_after = faults new;
}
