-- Live events of a train listed: those between two of its events, and those before an event, back to the last reported one.
use Rattle.timetable.proofs.Words.{◌≡◌, ◌+◌, ◌≤◌, ℕ, Bool, true, false, cond, List, [], ◌∷◌, ◌++◌, length, refl, sym, ◌∙◌, ap, arith, inl, inr, cases_Bool}
use Rattle.timetable.proofs.Words.{Node, Event, live_events, is_event, list_any, Vec, Global, vec_len, vec_capacity, names_of, live_keys, length-map, All, All-nil, All-cons, Contains, State, events, train_events, train_events-there, suc}
use Rattle.timetable.proofs.Prepared.{fewer-own}
use Rattle.delay_model.specs.Cuts.{before, from}
use Rattle.delay_model.specs.Touched.{is_reported, since_report}

-- part of a listing: with those to come all are listed, and there is room for those that are left
pub record IsNaming (room : ℕ) (all to_come left : List Event) (list : Vec Node Global) : Type 0 where
  pub whole : list.items ++ names_of (live_events to_come) ≡ names_of (live_events all)
  pub fits : vec_len list + length (live_events left) ≤ vec_capacity list
  pub capacity : vec_capacity list ≡ room

pub live-first : (v : Event) (vs : List Event) → length (live_events (v ∷ vs)) ≡ length (live_events (v ∷ [])) + length (live_events vs)
live-first v vs = elim (cases_Bool v.live) [ inl live ↦ rw live (omega arith) | inr dead ↦ rw dead (omega arith) ]

-- where none is reported all are since then
since-none : (vs : List Event) → list_any is_reported vs ≡ false → since_report vs ≡ vs
since-none [] h = refl
since-none (v ∷ vs) h = rw h refl

-- what will be listed, with what is listed and what is left
abbrev pub since_by : List Node → List Event → List Node
since_by ns vs = cond (list_any is_reported vs) (names_of (live_events (since_report vs))) (ns ++ names_of (live_events vs))

since-first : (vs : List Event) → since_by [] vs ≡ names_of (live_events (since_report vs))
since-first vs =
    elim (cases_Bool (list_any is_reported vs)) [
      | inl h ↦ rw h refl
      | inr h ↦ rw (h, since-none vs h) refl
    ]

-- an event that is reported
since-clear : (ns : List Node) (v : Event) (vs : List Event) → is_reported v ≡ true → since_by [] vs ≡ since_by ns (v ∷ vs)
since-clear ns v vs is = since-first vs ∙ rw is refl

pub record IsSince (room : ℕ) (n : Node) (all left : List Event) (list : Vec Node Global) : Type 0 where
  pub listed : since_by list.items (before (is_event n) left) ≡ names_of (live_events (since_report (before (is_event n) all)))
  pub fits : vec_len list + length (live_events left) ≤ vec_capacity list
  pub capacity : vec_capacity list ≡ room

pub since-begin : (n : Node) (all left : List Event) (list : Vec Node Global) → left ≡ all → list.items ≡ [] → vec_len list ≡ 0 → length (live_events all) ≤ vec_capacity list → IsSince (vec_capacity list) n all left list
since-begin n all left list e none short room = record { listed = rw (e, none) (since-first (before (is_event n) all)); fits = rw e (omega (arith, short, room)); capacity = refl }

module _ {room : ℕ} {n : Node} {all left : List Event} {list : Vec Node Global} (part : IsSince room n all left list) {v : Event} {rest : List Event} (next : left ≡ v ∷ rest) where
  fits : vec_len list + (length (live_events (v ∷ [])) + length (live_events rest)) ≤ vec_capacity list
  fits = let e = rw (next, live-first v rest) at part.fits in e

  module _ (other : is_event n v ≡ false) (now : Vec Node Global) (same : vec_capacity now ≡ vec_capacity list) where
    cut : before (is_event n) left ≡ v ∷ before (is_event n) rest
    cut = rw (next, other) refl

    pub since-reported : is_reported v ≡ true → now.items ≡ [] → vec_len now ≡ 0 → IsSince room n all rest now
    since-reported is none short =
        record {
          listed = rw none (since-clear list.items v (before (is_event n) rest) is ∙ ap (since_by list.items) (sym cut) ∙ part.listed);
          fits = omega (arith, fits, same, short);
          capacity = same ∙ part.capacity;
        }

pub naming-begin : (all come left : List Event) (list : Vec Node Global) → come ≡ all → list.items ≡ [] → length (live_events left) ≤ vec_capacity list → IsNaming (vec_capacity list) all come left list
naming-begin all come left list is none room = record { whole = rw (is, none) refl; fits = omega (arith, ap length none, list.ok.0, room); capacity = refl }

-- no more events are live from one on than of all
pub fewer-from : (p : Event → Bool) (vs : List Event) → length (live_events (from p vs)) ≤ length (live_events vs)
fewer-from p [] = omega arith
fewer-from p (v ∷ vs) =
    elim (cases_Bool (p v)) [
      | inl hit ↦ rw hit (omega arith)
      | inr miss ↦ rw miss (omega (arith, live-first v vs, fewer-from p vs))
    ]

-- there is room for the live events of a train where there is for all
pub own-fit : (st : State) (n room : ℕ) → length (live_keys (events st)) ≤ room → length (live_events (train_events st n)) ≤ room
own-fit st n room fits =
    omega (arith, fits, fewer-own st n, length-map (live_events (events st)) (λ (v : Event). v.key), length-map (live_events (train_events st n)) (λ (v : Event). v.key))

-- what holds of each event of a train holds of those that are listed
before-all : (P : Event → Type 0) (p : Event → Bool) (vs : List Event) → All P vs → All P (before p vs)
before-all P p [] h = h
before-all P p (v ∷ vs) h =
    elim (cases_Bool (p v)) [
      | inl hit ↦ rw hit (All-nil P)
      | inr miss ↦ rw miss (All-cons P v (before p vs) (h 0 v (omega arith)) (before-all P p vs (λ i d l. h (suc i) d (omega arith))))
    ]

since-all : (P : Event → Type 0) (vs : List Event) → All P vs → All P (since_report vs)
since-all P [] h = h
since-all P (v ∷ vs) h = elim (cases_Bool (list_any is_reported (v ∷ vs))) [ inl any ↦ rw any (since-all P vs (λ i d l. h (suc i) d (omega arith))) | inr none ↦ rw none h ]

pub since-there : (st : State) (n : Node) → All (Contains (events st)) (since_report (before (is_event n) (train_events st n.train)))
since-there st n = since-all (Contains (events st)) (before (is_event n) (train_events st n.train)) (before-all (Contains (events st)) (is_event n) (train_events st n.train) (train_events-there st n.train))
