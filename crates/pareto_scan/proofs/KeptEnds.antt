-- What a scan keeps from its begin to its end.
use Rattle.conn_scan.proofs.Words.{◌≡◌, inl, inr, ℕ, zero, suc, ◌≤◌, ◌<◌, nat_eq, Bool, true, false, List, [], ◌∷◌, ◌++◌, Option, Some, None, length, map, replicate, get_or, refl, sym, ◌∙◌, ap, subst, arith, All, Contains, option_map_or, both_ways, cond, cases_Bool, cases_eq, cases_lt, append-nil, append_assoc, eqb-true, leb-true, All-get_or, All-head, All-tail, get_or-replicate, get_or_past, length-replicate, none-some, same_Some, Query, Network, State, AreAtStops, held, Ordered, Departure, Leaving, IsEarly, IsFromOrigin, IsBestBy, IsWithin, HasRoomFor, is_there_by, never, time_at, leaving_from, ride_at}
use Rattle.conn_scan.specs.declared.known.Ending.{Ending}
use Rattle.conn_scan.proofs.ChangeLemmas.{changes_of}
use Rattle.conn_scan.proofs.Kept.{AreOpened, best_time, number}
use Rattle.conn_scan.proofs.KeptEnds.{all-done, early-done, kept-begun, opens-straight, opens-within}
use Rattle.conn_scan.proofs.LeavingFrom.{leaving-at}
use Rattle.conn_scan.proofs.NextDeparture.{AreNumbered}
use Rattle.pareto_scan.specs.Levels.{as_known, begun_level, begun_levels, blank_level, has_more, level_at, top_at, HasLevelRoom}
use Rattle.pareto_scan.specs.Ridden.{Ridden, departed, known, rider_at, rode, scanned}
use Rattle.pareto_scan.specs.declared.level.Level.{Level}
use Rattle.pareto_scan.specs.declared.riders.Rider.{Rider}
use Rattle.pareto_scan.proofs.LevelLists.{begun-at, keeps-begun, more-there, past-at, riders-departed, rows-departed}
use Rattle.pareto_scan.proofs.Kept.{IsExplained, IsKept, IsTop, best_at, openings_at, reached_at}
use Rattle.pareto_scan.proofs.KeptSteps.{is-step, kept-departed}

-- ---- before the first departure

-- one can board straight from the origin, and has arrived nowhere
record IsFresh (nw : Network) (q : Query) (v : Level) : Type 0 where
  pub straight : (b t : ℕ) → time_at v.openings.times b ≡ Some t → (ride_at v.openings b ≡ None) × IsFromOrigin nw q b t
  pub places : (b t : ℕ) → time_at v.openings.times b ≡ Some t → b < length nw.stops
  pub nowhere : (b : ℕ) → time_at v.held b ≡ None
  pub best : v.best ≡ None

never-at : (X : Type 0) (n b : ℕ) → get_or {A = Option X} (replicate n None) b None ≡ None
never-at X n b = elim (cases_lt b n) [
  | inl within ↦ get_or-replicate n b None None within
  | inr past ↦ get_or_past (replicate n None) b None (let size = length-replicate {A = Option X} n None in omega arith)
]

module _ (nw : Network) (st : State) (q : Query) (o : Ordered) (most : ℕ) (vs : List Level) (numbers : ℕ) (some : most < length vs) (room : All (HasLevelRoom (length nw.stops)) vs) where
  abbrev fresh : List Level
  fresh = begun_levels (changes_of nw) q vs

  has-room : (v : Level) → HasLevelRoom (length nw.stops) v → HasRoomFor (length nw.stops) 0 (as_known v)
  has-room v h = record { held = h.held; times = h.times; rides = h.rides; aboard = omega arith }

  row-at : (k : ℕ) → k < length vs → HasLevelRoom (length nw.stops) (level_at vs k)
  row-at k within = All-get_or (HasLevelRoom (length nw.stops)) vs k blank_level within room

  one-fresh : (more : Bool) (v : Level) → HasLevelRoom (length nw.stops) v → IsFresh nw q (begun_level (changes_of nw) q more v)
  one-fresh true v h = record {
    straight = opens-straight nw st q o (as_known v) (has-room v h);
    places = opens-within nw st q o (as_known v) (has-room v h);
    nowhere = λ b. never-at ℕ (length v.held) b;
    best = refl;
  }
  one-fresh false v h = record {
    straight = λ b t at. absurd (none-some t (sym (never-at ℕ (length v.openings.times) b) ∙ at));
    places = λ b t at. absurd (none-some t (sym (never-at ℕ (length v.openings.times) b) ∙ at));
    nowhere = λ b. never-at ℕ (length v.held) b;
    best = refl;
  }

  blank-fresh : IsFresh nw q blank_level
  blank-fresh = record {
    straight = λ b t at. absurd (none-some t (sym (get_or_past [] b None (omega arith)) ∙ at));
    places = λ b t at. absurd (none-some t (sym (get_or_past [] b None (omega arith)) ∙ at));
    nowhere = λ b. get_or_past [] b None (omega arith);
    best = refl;
  }

  size : length fresh ≡ length vs
  size = (keeps-begun (changes_of nw) q vs).count

  each-fresh : (k : ℕ) → IsFresh nw q (level_at fresh k)
  each-fresh k = elim (cases_lt k (length vs)) [
    | inl within ↦ subst (IsFresh nw q) (sym (begun-at (changes_of nw) q vs k within)) (one-fresh (has_more vs k) (level_at vs k) (row-at k within))
    | inr past ↦ subst (IsFresh nw q) (sym (past-at fresh k (let same = size in omega arith))) blank-fresh
  ]

  not-reached : (k b t : ℕ) → reached_at fresh k b ≡ Some t → ⊥
  not-reached k b t at = none-some t (sym ((each-fresh k).nowhere b) ∙ at)

  opened-fresh : (k : ℕ) → suc k < length fresh → AreOpened nw q (reached_at fresh k) (openings_at fresh k)
  opened-fresh k within =
      let same = size in
      let inside : k < length vs = omega arith in
      let is : level_at fresh k ≡ begun_level (changes_of nw) q true (level_at vs k) =
      begun-at (changes_of nw) q vs k inside ∙ ap (λ more. begun_level (changes_of nw) q more (level_at vs k)) (more-there vs k (omega arith)) in
      subst (λ (v : Level). AreOpened nw q (time_at v.held) v.openings) (sym is)
      (kept-begun nw st q o (as_known (level_at vs k)) (has-room (level_at vs k) (row-at k inside))).opened

  no-best : (k t : ℕ) → IsBestBy (best_at fresh k) t → ⊥
  no-best k t h = none-some h.0 (sym (ap best_time (each-fresh k).best) ∙ h.1)

  pub kept-fresh : IsKept nw st q o most [] (known fresh (replicate numbers None))
  kept-fresh = record {
    some = let same = size in omega arith;
    arrivals = λ k less r ride seen. absurd (let l = seen.seen.1 in omega arith);
    there = λ k b t at. absurd (not-reached k b t at);
    since = λ k b t at. absurd (not-reached k b t at);
    opened = opened-fresh;
    aboard = λ k less n b there. absurd (let l = there.1 in omega arith);
    noted = λ n c at. absurd (none-some c (sym (never-at Rider numbers n) ∙ at));
    explained = λ k b t at. let straight = (each-fresh k).straight b t at in subst (IsExplained nw q o fresh k b t) (sym straight.0) straight.1;
    best = λ k e at. absurd (none-some e (sym (each-fresh k).best ∙ at));
    stops = λ k b t at. absurd (not-reached k b t at);
    places = λ k. (each-fresh k).places;
    more = λ k b t within h. absurd (not-reached k b h.0 h.1);
    no_worse = λ k t within h. absurd (no-best k t h);
    none = (each-fresh 0).nowhere;
  }

-- ---- who boards no more

there-later : (best : Option Ending) (t u : ℕ) → t ≤ u → is_there_by best t ≡ true → is_there_by best u ≡ true
there-later None t u le there = absurd (both_ways false refl there)
there-later (Some e) t u le there = let by = leb-true e.time t there in Rattle.std.proofs.lemmas.Bool.le-leb e.time u (omega arith)

there-better : (old new : Option Ending) (t : ℕ) → ((s : ℕ) → IsBestBy (best_time old) s → IsBestBy (best_time new) s) → is_there_by old t ≡ true → is_there_by new t ≡ true
there-better None new t better there = absurd (both_ways false refl there)
there-better (Some e) new t better there = by new (better t (e.time, refl, leb-true e.time t there))
  where
    by : (new : Option Ending) → IsBestBy (best_time new) t → is_there_by new t ≡ true
    by None h = absurd (none-some h.0 h.1)
    by (Some f) h = let same : f.time ≡ h.0 = same_Some f.time h.0 h.1 in let le = h.2 in Rattle.std.proofs.lemmas.Bool.le-leb f.time t (omega arith)

pub top-few : (levels : List Level) (t top : ℕ) → top_at levels t top ≤ top
top-few levels t zero = omega arith
top-few levels t (suc r) = elim (cases_Bool (is_there_by (level_at levels (suc r)).best t)) [
  | inl there ↦ rw there (let few = top-few levels t r in omega arith)
  | inr live ↦ rw live (omega arith)
]

module _ (levels : List Level) (t : ℕ) where
  abbrev IsThere : ℕ → Type 0
  IsThere k = is_there_by (level_at levels (suc k)).best t ≡ true

  over-by : (r k : ℕ) (y : Bool) → is_there_by (level_at levels (suc r)).best t ≡ y → (top_at levels t r ≤ k → k < r → IsThere k) → cond y (top_at levels t r) (suc r) ≤ k → k < suc r → IsThere k
  over-by r k false live rest from below = absurd (omega arith)
  over-by r k true there rest from below = elim (cases_eq k r) [
    | inl same ↦ subst IsThere (sym same) there
    | inr other ↦ rest from (omega arith)
  ]

  top-over : (top k : ℕ) → top_at levels t top ≤ k → k < top → IsThere k
  top-over zero k from below = absurd (omega arith)
  top-over (suc r) k from below = over-by r k (is_there_by (level_at levels (suc r)).best t) refl (top-over r k) from below

pub top-next : (levels : List Level) (most t u top : ℕ) → t ≤ u → IsTop levels most t top → IsTop levels most u (top_at levels u top)
top-next levels most t u top le h = record {
  few = let few = top-few levels u top in let most = h.few in omega arith;
  over = λ k from less. elim (cases_lt k top) [
    | inl below ↦ top-over levels u top k from below
    | inr past ↦ there-later (level_at levels (suc k)).best t u le (h.over k past less)
  ];
}

-- ---- departure by departure

module _ (nw : Network) (st : State) (o : Ordered) (are : AreNumbered nw st o)
    (q : Query) (at_stops : AreAtStops nw.stops st) (small : (n : ℕ) (d : Departure) → held o.entries n ≡ Some d → d.time < never) (most : ℕ) where
  -- at the end each departure is done that is before the best arrival with a number of rides
  pub record IsOver (s : Ridden) : Type 0 where
    pub done : List ℕ
    pub kept : IsKept nw st q o most done s
    pub all : (k : ℕ) → k < most → (n : ℕ) (d : Departure) → held o.entries n ≡ Some d → q.time ≤ d.time → IsEarly (best_at s.levels (suc k)) d.time → Contains done n

  module _ (done : List Leaving) (x : Leaving) (rest : List Leaving)
      (split : leaving_from o q.time ≡ done ++ x ∷ rest) (s : Ridden) (kept : IsKept nw st q o most (map number done) s)
      (top : ℕ) (tops : IsTop s.levels most x.time top) (next : x.next < length s.riders) (room : All (HasLevelRoom (length nw.stops)) s.levels) where
    better-by : (p : Option Rider) → rider_at top x s ≡ p → (k t : ℕ) → IsBestBy (best_at s.levels k) t → IsBestBy (best_at (option_map_or (λ c. rode (changes_of nw) q c x s) p s).levels k) t
    better-by None is k t h = h
    better-by (Some c) is k t h = (is-step nw st o are q at_stops small most done x rest split s kept top tops c is next room k).step.no_worse t h

    top-still : IsTop (departed (changes_of nw) q top x s).levels most x.time top
    top-still = record {
      few = tops.few;
      over = λ k from less. there-better (level_at s.levels (suc k)).best
          (level_at (departed (changes_of nw) q top x s).levels (suc k)).best x.time (better-by (rider_at top x s) refl (suc k)) (tops.over k from less);
    }

  pub scanned-over : (numbers time : ℕ) (done ds : List Leaving) (top : ℕ) (s : Ridden)
      → leaving_from o q.time ≡ done ++ ds → All (λ (y : Leaving). time ≤ y.time) ds
      → All (IsWithin (length nw.stops) numbers) ds → numbers < length s.riders → All (HasLevelRoom (length nw.stops)) s.levels
      → IsTop s.levels most time top → IsKept nw st q o most (map number done) s → IsOver (scanned (changes_of nw) q top ds s)
  scanned-over numbers time done [] top s split since within riders room tops kept = record {
    done = map number done;
    kept = kept;
    all = λ k less n d there from early. all-done nw st o are q at_stops small done (as_known (level_at s.levels (suc k))) (split ∙ append-nil done) n d there from;
  }
  scanned-over numbers time done (x ∷ rest) top s split since within riders room tops kept =
      let fits = All-head (IsWithin (length nw.stops) numbers) x rest within in
      let next = fits.next in
      let now = top_at s.levels x.time top in
      let tops_now = top-next s.levels most time x.time top (All-head (λ (y : Leaving). time ≤ y.time) x rest since) tops in
      let at = leaving-at nw st o are q.time done x rest split in
      elim (cases_Bool (nat_eq now 0)) [
        | inl over ↦ rw over (record {
          done = map number done;
          kept = kept;
          all = λ k less. early-done nw st o are q at_stops small done x rest (as_known (level_at s.levels (suc k))) split (tops_now.over k (let none = eqb-true now 0 over in omega arith) less);
        })
        | inr live ↦ rw live (scanned-over numbers x.time (done ++ x ∷ []) rest now (departed (changes_of nw) q now x s) (split ∙ sym (append_assoc done (x ∷ []) rest)) at.after
            (All-tail (IsWithin (length nw.stops) numbers) x rest within)
            (let same = riders-departed (changes_of nw) q now x s in omega arith)
            ((rows-departed (changes_of nw) q now x s).rows (length nw.stops) room)
            (top-still done x rest split s kept now tops_now (omega arith) room)
            (kept-departed nw st o are q at_stops small most done x rest split s kept now tops_now (omega arith) room))
      ]

  -- a scan from its begin to its end
  pub search-over : (numbers : ℕ) (vs : List Level) (riders : ℕ)
      → most < length vs → All (HasLevelRoom (length nw.stops)) vs → numbers < riders → All (IsWithin (length nw.stops) numbers) (leaving_from o q.time)
      → IsOver (scanned (changes_of nw) q most (leaving_from o q.time) (known (begun_levels (changes_of nw) q vs) (replicate riders None)))
  search-over numbers vs riders some room fits within =
      scanned-over numbers 0 [] (leaving_from o q.time) most (known (begun_levels (changes_of nw) q vs) (replicate riders None)) refl (λ i d l. omega arith) within
      (let size = length-replicate {A = Option Rider} riders None in omega arith)
      ((keeps-begun (changes_of nw) q vs).rows (length nw.stops) room)
      (record { few = omega arith; over = λ k from less. absurd (omega arith) })
      (kept-fresh nw st q o most vs riders some room)
