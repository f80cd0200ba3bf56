-- How a feed is left when a table of it was read.
use Rattle.std.specs.Prelude.{◌≡◌, Option, Some, Result, IsErrOf}
use Rattle.mt_io.specs.Causes.{Faults, counted}
use Rattle.gtfs_tables.specs.Feeds.{Files}
use Rattle.gtfs_tables.specs.declared.refusals.FeedError.{FeedError}
use Rattle.gtfs_tables.specs.declared.refusals.FeedError.TheVariants.{ReadFault}

-- a reading of a table had this result. The files, where the feed tells them, and the number of
-- failed reads are those before the reading and after it
pub record IsRead {T : Type 0} (result : Result T FeedError) (files files_after : Option Files)
    (faults faults_after : Faults) : Type 0 where
  -- it fails where exactly one read of the feed failed
  pub failed : IsErrOf result ReadFault → Some faults_after ≡ counted faults
  -- else no read failed
  pub answered : ¬ (IsErrOf result ReadFault) → faults_after ≡ faults
  -- the files stay as they were
  pub same : files_after ≡ files
