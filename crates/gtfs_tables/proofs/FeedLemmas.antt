-- From what was fetched and read of one table to what a feed holds of it.
use Rattle.gtfs_tables.proofs.Words.{◌≡◌, ℕ, List, Result, sym, subst, arith, ◌>>=◌, records_of, AreRecordsOf}
use Rattle.gtfs_tables.specs.declared.refusals.FeedRefusal.{FeedRefusal}
use Rattle.gtfs_tables.specs.declared.refusals.FeedError.{FeedError}
use Rattle.gtfs_tables.proofs.TextRecords.{records_are}
use Rattle.gtfs_tables.specs.Refusals.{IsErrorOf}

-- an error ends what goes on with what was made
pub stops-at : {A B : Type 0} (e : FeedError) (m : Result A FeedRefusal) (f : A → Result B FeedRefusal) → IsErrorOf e m → IsErrorOf e (m >>= f)
stops-at e m f h = grind arith

-- the records of a text, by its bytes
pub all_records : (text bytes : List ℕ) → text ≡ bytes → AreRecordsOf text (records_of bytes)
all_records text bytes same = subst (λ (t : List ℕ). AreRecordsOf t (records_of bytes)) (sym same) (records_are bytes)
