-- What a check makes of one departure more.
use Rattle.conn_scan.proofs.Words.{◌≡◌, ℕ, ◌&&◌, true, false, List, ◌∷◌, Option, Some, None, is_some, refl, sym, option_map_or, length-set, HasSameRoom, Known, boarding, stayed}
use Rattle.dep_order.specs.declared.departure.Leaving.{Leaving}
use Rattle.journey_laws.specs.Checked.{is_early}
use Rattle.conn_scan.specs.Arrivals.{has_all, is_lacking, is_missed, passed}
use Rattle.conn_scan.proofs.RoomLemmas.{same-room}
use Rattle.std.proofs.lemmas.Bool.{cases_Bool}
use Rattle.std.proofs.Common.{Bool, inl, inr}

missed-both : (a b : Bool) → b ≡ false → (a && b) ≡ false
missed-both true b h = h
missed-both false b h = refl

-- none is missed where the arrival is not lacking, or where nobody rides
pub missed-there : (n : ℕ) (best : Option ℕ) (d : Leaving) (k : Known) → is_lacking n best d k.held ≡ false → is_missed n best d k ≡ false
missed-there n best d k h = missed-both (is_some (boarding d k)) (is_lacking n best d k.held) h

pub missed-none : (n : ℕ) (best : Option ℕ) (d : Leaving) (k : Known) (boarded : Option ℕ) → boarded ≡ boarding d k → is_some boarded ≡ false → is_missed n best d k ≡ false
missed-none n best d k boarded is none = let nobody : is_some (boarding d k) ≡ false = rw is at none in rw nobody refl

pub all-passed : (n : ℕ) (best : Option ℕ) (d : Leaving) (ds : List Leaving) (k : Known) → is_early best d.time ≡ true → is_missed n best d k ≡ false → has_all n best (d ∷ ds) k ≡ has_all n best ds (passed d k)
all-passed n best d ds k early missed = rw (early, missed) refl

stayed-or : (d : Leaving) (k : Known) (o : Option ℕ) → HasSameRoom k (option_map_or (λ b. stayed b d k) o k)
stayed-or d k None = same-room k
stayed-or d k (Some b) = record { held = refl; times = refl; rides = refl; aboard = length-set k.aboard d.next (Some b) }

pub room-passed : (d : Leaving) (k : Known) → HasSameRoom k (passed d k)
room-passed d k = stayed-or d k (boarding d k)
