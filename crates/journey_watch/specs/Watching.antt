-- Journeys that are watched, and what is told of them.
use Rattle.std.specs.Prelude.{◌≡◌, ℕ, ◌+◌, ◌*◌, List, [], ◌∷◌, Bool, false, nat_eq, if◌then◌else◌, map, length, All}
use Rattle.mt_base.specs.declared.journeys.PlanRide.{PlanRide}
use Rattle.mt_base.specs.declared.journeys.Query.{Query}
use Rattle.mt_base.specs.declared.keys.Node.{Node}
use Rattle.standing_laws.specs.declared.standings.Alert.{Alert}
use Rattle.standing_laws.specs.declared.standings.Standing.{Standing}
use Rattle.standing_laws.specs.declared.standings.Standing.TheVariants.{Good, Broken}
use Rattle.delay_model.specs.declared.network.Network.{Network}
use Rattle.delay_model.specs.declared.state.State.{State}
use Rattle.journey_laws.specs.Certificates.{name_of}
use Rattle.journey_watch.specs.declared.watched.Watched.{Watched}
use Rattle.standing_laws.specs.Standings.{first_arrival, is_on_one, standing}

-- how many journeys can be watched, and those that are, in the order in which they were added
pub record WatchState : Type 0 where
  pub room : ℕ
  pub watched : List Watched

-- both standings are the same
abbrev pub is_same_standing : Standing → Standing → Bool
is_same_standing (Good s) (Good t) = nat_eq s t
is_same_standing (Broken m) (Broken n) = nat_eq m n
is_same_standing _ _ = false

-- a journey as it is first watched
abbrev pub first_watched : ℕ → ℕ → Query → List PlanRide → Watched
first_watched id day q rides =
    record {
      id = id;
      day = day;
      query = q;
      rides = map name_of rides;
      standing = Good (first_arrival q.time rides);
    }

-- the standing of a watched journey in a state
abbrev pub standing_in : Network → State → Watched → Standing
standing_in nw st w = standing nw st w.query w.rides

-- it has the standing that is kept of it
abbrev pub has_kept_standing : Network → State → Watched → Bool
has_kept_standing nw st w = is_same_standing (standing_in nw st w) w.standing

-- the watched journey with its standing in a state
abbrev pub renewed : Network → State → Watched → Watched
renewed nw st w = record w { standing = standing_in nw st w }

-- that a watched journey has this standing now
abbrev pub alert_of : Network → State → Watched → Alert
alert_of nw st w = record { watch = w.id; day = w.day; standing = standing_in nw st w }

-- what is told of these journeys in a state: the standing of each that has another than the one
-- that is kept of it
abbrev pub alerts_of : Network → State → List Watched → List Alert
alerts_of nw st [] = []
alerts_of nw st (w ∷ ws) =
    if has_kept_standing nw st w then alerts_of nw st ws
    else alert_of nw st w ∷ alerts_of nw st ws

-- each journey of which no train has one of these events has the standing that is kept of it
abbrev pub AreElsewhereKept : Network → State → List Node → List Watched → Type 0
AreElsewhereKept nw st nodes ws = All (λ (w : Watched). is_on_one nodes w.rides ≡ false
    → standing_in nw st w ≡ w.standing) ws

-- each of these journeys has the standing that is kept of it
abbrev pub AreKept : Network → State → List Watched → Type 0
AreKept nw st ws = All (λ (w : Watched). standing_in nw st w ≡ w.standing) ws

-- the most times that are read to find the standings of the journeys that have a train with one of
-- these events: two for each of their rides
abbrev pub reads_for : List Node → List Watched → ℕ
reads_for nodes [] = 0
reads_for nodes (w ∷ ws) =
    (if is_on_one nodes w.rides then 2 * length w.rides else 0) + reads_for nodes ws
