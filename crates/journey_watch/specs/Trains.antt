-- Which watched journeys have a ride on which train.
use Rattle.std.specs.Prelude.{◌≡◌, ℕ, ◌<◌, ◌≤◌, ◌^◌, List, [], ◌∷◌, ◌++◌, Bool, true, false, if◌then◌else◌, All, Contains, Some, length, slice_get}
use Rattle.std.specs.Option.{option_map_or}
use Rattle.mt_base.specs.declared.certificates.CertRide.{CertRide}
use Rattle.mt_base.specs.declared.keys.Node.{Node}
use Rattle.journey_watch.specs.declared.watched.Watched.{Watched}

-- the places of the journeys that stand beside a train
abbrev pub journeys_on : List (List ℕ) → ℕ → List ℕ
journeys_on rows train = option_map_or (λ (row : List ℕ). row) (slice_get rows train) []

-- the list has nothing
abbrev pub is_empty : List ℕ → Bool
is_empty [] = true
is_empty (n ∷ ns) = false

-- the trains of these events beside which a journey stands
abbrev pub watched_trains : List (List ℕ) → List Node → List ℕ
watched_trains rows [] = []
watched_trains rows (n ∷ ns) =
    if is_empty (journeys_on rows n.train) then watched_trains rows ns
    else n.train ∷ watched_trains rows ns

-- the journeys that stand beside these trains
abbrev pub journeys_on_any : List (List ℕ) → List ℕ → List ℕ
journeys_on_any rows [] = []
journeys_on_any rows (t ∷ ts) = journeys_on rows t ++ journeys_on_any rows ts

-- the journey at this place stands beside each train on which it has a ride
abbrev pub StandsBesideTrains : List (List ℕ) → ℕ → List CertRide → Type 0
StandsBesideTrains rows place rides =
    All (λ (c : CertRide). Contains (journeys_on rows c.train) place) rides

-- no more journeys are watched than there is room for, which is for 10,000 at most; each of them
-- stands beside its trains, and has fewer than 2^32 rides
pub record AreBesideTrains (room : ℕ) (rows : List (List ℕ)) (ws : List Watched) : Type 0 where
  pub beside : (place : ℕ) (w : Watched) → slice_get ws place ≡ Some w
      → StandsBesideTrains rows place w.rides
  pub few : All (λ (w : Watched). length w.rides < 2 ^ 32) ws
  pub fits : length ws ≤ room
  pub room_few : room ≤ 10000
