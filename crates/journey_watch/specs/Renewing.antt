-- How the standings of watched journeys are found again.
use Rattle.std.specs.Prelude.{◌≡◌, ℕ, ◌*◌, ◌<◌, AllPairs, List, Bool, true, ◌&&◌, not, nat_eq, if◌then◌else◌, Option, Some, None, Contains, length, slice_get}
use Rattle.std.specs.List.{list_any}
use Rattle.mt_base.specs.declared.certificates.CertRide.{CertRide}
use Rattle.mt_base.specs.declared.keys.Node.{Node}
use Rattle.standing_laws.specs.declared.standings.Alert.{Alert}
use Rattle.delay_model.specs.declared.network.Network.{Network}
use Rattle.delay_model.specs.declared.state.State.{State}
use Rattle.journey_watch.specs.declared.watched.Watched.{Watched}
use Rattle.standing_laws.specs.Standings.{is_on_one}
use Rattle.journey_watch.specs.Watching.{alert_of, has_kept_standing}

-- one of the rides is on one of these trains
abbrev pub is_on_any : List ℕ → List CertRide → Bool
is_on_any trains rides =
    list_any (λ (c : CertRide). list_any (λ train. nat_eq train c.train) trains) rides

-- the most times that are read to find its standing: two for each ride, if one is on one of these
-- trains
abbrev pub reads_on : List ℕ → Watched → ℕ
reads_on trains w = if is_on_any trains w.rides then 2 * length w.rides else 0

-- what is told of a watched journey, if it has a ride on one of these trains
abbrev pub told_of : Network → State → List ℕ → Watched → Option Alert
told_of nw st trains w =
    if is_on_any trains w.rides && not (has_kept_standing nw st w) then Some (alert_of nw st w)
    else None

-- these trains are among those of these events, and each watched journey that has a ride on a train
-- of one of these events has one on one of these trains, and stands at one of these places, which
-- rise
pub record AreDue (nodes : List Node) (trains due : List ℕ) (ws : List Watched) : Type 0 where
  pub on : (place : ℕ) (w : Watched) → slice_get ws place ≡ Some w
      → is_on_one nodes w.rides ≡ true → is_on_any trains w.rides ≡ true
  pub each : (place : ℕ) (w : Watched) → slice_get ws place ≡ Some w
      → is_on_one nodes w.rides ≡ true → Contains due place
  pub only : (rides : List CertRide) → is_on_any trains rides ≡ true
      → is_on_one nodes rides ≡ true
  pub order : AllPairs (λ a b. a < b) due
