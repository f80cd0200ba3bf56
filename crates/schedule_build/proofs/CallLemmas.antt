-- A trip has a call for each row with a time on any day, and its times do not fall, whatever the base.
use Rattle.schedule_build.proofs.Words.{◌≡◌, ◌≤◌, ℕ, ◌+◌, List, [], ◌∷◌, length, refl, ◌∙◌, arith, CallRow, in_order, sequence, times_of, DoNotFallFrom, timed_calls, trip_calls}
use Rattle.feed_tables.proofs.TimeLemmas.{times-ordered}
use Rattle.train_nodes.specs.Loaded.{DoNotFall}
use Rattle.feed_tables.specs.Calls as Rows

timed-length : (base : ℕ) (rows : List CallRow) → length (timed_calls base rows) ≡ length (times_of rows)
timed-length base [] = refl
timed-length base (r ∷ rs) = grind (arith, timed-length base rs)

-- a trip has as many calls as rows with a time
pub trip_calls-length : (base : ℕ) (rows : List CallRow) → length (trip_calls base rows) ≡ length (times_of rows)
trip_calls-length base rows = timed-length base (in_order sequence rows) ∙ times-ordered rows

falls-later : (base low bound : ℕ) (rows : List CallRow) → bound ≤ base + low → Rows.DoNotFall low (times_of rows) → DoNotFallFrom bound (timed_calls base rows)
unfolding Rows.DoNotFall
falls-later base low bound [] l h = tt
falls-later base low bound (r ∷ rs) l h = grind (arith, λ (k b : ℕ). falls-later base k b rs)

-- where the times of the rows do not fall, those of the calls do not
pub falls-not : (base : ℕ) (rows : List CallRow) → Rows.DoNotFall 0 (times_of (in_order sequence rows)) → DoNotFall (trip_calls base rows)
falls-not base rows h = falls-later base 0 0 (in_order sequence rows) (omega arith) h
