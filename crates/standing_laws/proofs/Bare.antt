-- The ride of a name depends on the calls of its train and the times of their events, and not on forecasts and reports.
use Rattle.std.proofs.Common.{◌≡◌, ℕ, true, cond, List, [], ◌∷◌, map, Option, Some, None, find, refl, sym, ◌∙◌, ap, arith, inl, inr}
use Rattle.std.specs.List.{All}
use Rattle.std.specs.Option.{option_and_then, option_map}
use Rattle.std.proofs.lemmas.Bool.{cases_Bool}
use Rattle.std.proofs.lemmas.List.Elements.{All-head, All-tail}
use Rattle.std.proofs.lemmas.Option.{none-some, same_Some}
use Rattle.mt_base.specs.declared.certificates.CertRide.{CertRide}
use Rattle.mt_base.specs.declared.journeys.PlanRide.{PlanRide}
use Rattle.mt_base.specs.declared.keys.Key.{Key}
use Rattle.delay_model.specs.declared.state.Call.{Call}
use Rattle.delay_model.specs.declared.state.EventValues.{EventValues}
use Rattle.delay_model.specs.Cuts.{after}
use Rattle.delay_model.specs.Effect.{is_call}
use Rattle.delay_model.specs.Events.{arrival_of, departure_of}
use Rattle.standing_laws.specs.Standings.{reached_call}

-- the values of an event without forecast and report
abbrev pub bare_values : EventValues → EventValues
bare_values e = record { scheduled = e.scheduled; live = e.live; forecast = None; report = None }

-- a call without those of its events
abbrev pub bare : Call → Call
bare c = record c { arrival = bare_values c.arrival; departure = bare_values c.departure }

-- the ride on a train from call c to call d, at these times
abbrev ride_at : (Key → ℕ) → ℕ → Call → Call → PlanRide
ride_at t train c d =
    record {
      train = train;
      board = c.label;
      board_stop = c.stop;
      board_time = t (departure_of train 0 c).key;
      alight = d.label;
      alight_stop = d.stop;
      alight_time = t (arrival_of train 0 d).key;
    }

-- the ride from the one call, if the train departs there, to the other
abbrev ride_by : (Key → ℕ) → ℕ → Option Call → Option Call → Option PlanRide
ride_by t train from to = option_and_then (λ (c : Call). cond c.departure.live (option_map (ride_at t train c) to) None) from

-- the ride of a name along these calls, at these times
abbrev pub ride_along : (Key → ℕ) → CertRide → List Call → Option PlanRide
ride_along t name cs = ride_by t name.train (find (is_call name.board) cs) (reached_call name.alight (after (is_call name.board) cs))

-- both times give one time to each live event of a train's call
abbrev pub AgreeAt : (Key → ℕ) → (Key → ℕ) → ℕ → Call → Type 0
AgreeAt t u train c =
    (c.arrival.live ≡ true → t (arrival_of train 0 c).key ≡ u (arrival_of train 0 c).key)
    × (c.departure.live ≡ true → t (departure_of train 0 c).key ≡ u (departure_of train 0 c).key)

find-bare : (label : ℕ) (cs : List Call) → find (is_call label) (map bare cs) ≡ option_map bare (find (is_call label) cs)
find-bare label [] = refl
find-bare label (c ∷ cs) = elim (cases_Bool (is_call label c)) [ inl here ↦ rw here refl | inr apart ↦ rw apart (find-bare label cs) ]

after-bare : (label : ℕ) (cs : List Call) → after (is_call label) (map bare cs) ≡ map bare (after (is_call label) cs)
after-bare label [] = refl
after-bare label (c ∷ cs) = elim (cases_Bool (is_call label c)) [ inl here ↦ rw here refl | inr apart ↦ rw apart (after-bare label cs) ]

reached-bare : (label : ℕ) (cs : List Call) → reached_call label (map bare cs) ≡ option_map bare (reached_call label cs)
reached-bare label [] = refl
reached-bare label (c ∷ cs) = let rest = reached-bare label cs in grind arith

-- the ride along bare calls is that along the calls
bare-by : (t : Key → ℕ) (train : ℕ) (o p : Option Call) → ride_by t train (option_map bare o) (option_map bare p) ≡ ride_by t train o p
bare-by t train None p = refl
bare-by t train (Some c) None = refl
bare-by t train (Some c) (Some d) = refl

bare-ride : (t : Key → ℕ) (name : CertRide) (cs : List Call) → ride_along t name (map bare cs) ≡ ride_along t name cs
bare-ride t name cs =
    rw (find-bare name.board cs, after-bare name.board cs, reached-bare name.alight (after (is_call name.board) cs))
    (bare-by t name.train (find (is_call name.board) cs) (reached_call name.alight (after (is_call name.board) cs)))

-- what is found by its label and is reached is one of the calls
found-each : (P : Call → Type 0) (label : ℕ) (cs : List Call) (c : Call) → All P cs → find (is_call label) cs ≡ Some c → P c
found-each P label [] c h found = absurd (none-some c found)
found-each P label (d ∷ ds) c h found = elim (cases_Bool (is_call label d)) [
  | inl here ↦ let same = same_Some d c (rw here at found) in rw same at (All-head P d ds h)
  | inr apart ↦ found-each P label ds c (All-tail P d ds h) (rw apart at found)
]

after-each : (P : Call → Type 0) (label : ℕ) (cs : List Call) → All P cs → All P (after (is_call label) cs)
after-each P label [] h = h
after-each P label (c ∷ cs) h = elim (cases_Bool (is_call label c)) [ inl here ↦ rw here (All-tail P c cs h) | inr apart ↦ rw apart (after-each P label cs (All-tail P c cs h)) ]

reached-each : (P : Call → Type 0) (label : ℕ) (cs : List Call) (c : Call) → All P cs → reached_call label cs ≡ Some c → (c.arrival.live ≡ true) × P c
reached-each P label [] c h found = absurd (none-some c found)
reached-each P label (d ∷ ds) c h found = let here = All-head P d ds h in let rest = reached-each P label ds c (All-tail P d ds h) in grind arith

-- at times that agree the ride is the same
agree-by : (t u : Key → ℕ) (train : ℕ) (o p : Option Call) → ((c : Call) → o ≡ Some c → AgreeAt t u train c)
    → ((d : Call) → p ≡ Some d → (d.arrival.live ≡ true) × AgreeAt t u train d) → ride_by t train o p ≡ ride_by u train o p
agree-by t u train None p from to = refl
agree-by t u train (Some c) None from to = refl
agree-by t u train (Some c) (Some d) from to =
    let a = from c refl in
    let b = to d refl in
    let leaves = a.1 in
    let arrives = b.1.0 b.0 in
    grind arith

agree-ride : (t u : Key → ℕ) (name : CertRide) (cs : List Call) → All (AgreeAt t u name.train) cs → ride_along t name cs ≡ ride_along u name cs
agree-ride t u name cs h =
    let P = AgreeAt t u name.train in
    let later = after (is_call name.board) cs in
    agree-by t u name.train (find (is_call name.board) cs) (reached_call name.alight later) (λ c found. found-each P name.board cs c h found)
    (λ d found. reached-each P name.alight later d (after-each P name.board cs h) found)

-- the ride of a name stays where its train's calls do, but for forecasts and reports, and the times of their live events
pub same-ride : (t u : Key → ℕ) (name : CertRide) (cs ds : List Call) → map bare ds ≡ map bare cs → All (AgreeAt t u name.train) cs → ride_along u name ds ≡ ride_along t name cs
same-ride t u name cs ds same agree =
    sym (bare-ride u name ds) ∙ ap (ride_along u name) same ∙ bare-ride u name cs ∙ sym (agree-ride t u name cs agree)
