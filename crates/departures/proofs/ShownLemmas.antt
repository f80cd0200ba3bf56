-- The rows that a scan shows are the board.
use Rattle.std.proofs.Common.{◌≡◌, ◌⊎◌, inl, inr, ℕ, ◌≤◌, Bool, true, List, [], ◌∷◌, ◌++◌}
use Rattle.std.proofs.Common.{Some, length, map, filter, take, get_or, nat_le, refl, sym, ◌∙◌, ap, subst, arith}
use Rattle.std.proofs.Math.Logic.{◌≢◌}
use Rattle.std.specs.Cmp.{IsTotalOrder}
use Rattle.std.specs.List.{All, AllPairs, Contains, filter_map}
use Rattle.std.specs.Ordering.{nat_cmp, ordering_then, is_lt}
use Rattle.std.specs.declared.cmp.Ordering.{Ordering}
use Rattle.std.specs.declared.cmp.Ordering.TheVariants.{Less, Equal, Greater}
use Rattle.std.proofs.lemmas.Bool.{cases_Bool, leb-true, le-leb}
use Rattle.std.proofs.lemmas.Cmp.{then_total, on_total, nat_cmp_total}
use Rattle.std.proofs.lemmas.List.{append-nil, length-take, take-append-le, take_all}
use Rattle.std.proofs.lemmas.List.Elements.{All-contains_itself, All-filter, All-head, All-map, All-tail, All-take, filter_passes}
use Rattle.std.proofs.lemmas.List.Kept.{AllPairs-filter}
use Rattle.mt_base.specs.Order.{key_cmp}
use Rattle.mt_base.proofs.KeyLemmas.{keys_total, exact_keys}
use Rattle.delay_model.specs.declared.network.Network.{Network}
use Rattle.delay_model.specs.declared.state.State.{State}
use Rattle.delay_model.specs.AtStops.{AreAtStops}
use Rattle.delay_model.specs.Changes.{station}
use Rattle.delay_model.specs.Valid.{IsValid}
use Rattle.delay_model.proofs.Lists.{Contains-filter}
use Rattle.dep_order.specs.declared.departure.Departure.{Departure}
use Rattle.dep_order.specs.declared.departure.Leaving.{Leaving}
use Rattle.dep_order.specs.Departing.{held, leaves_before}
use Rattle.dep_order.specs.Held.{HaveDistinctCalls}
use Rattle.dep_order.specs.Ordered.{Ordered, leaving_of, number_or_past}
use Rattle.dep_order.proofs.NumberLemmas.{one-number, own-call}
use Rattle.edge_rules.proofs.EventChanges.{AllPairs-map}
use Rattle.timetable.specs.Departures.{IsDeparture, departing}
use Rattle.timetable.specs.Onward.{IsDepartureOrder}
use Rattle.timetable.proofs.Departing.{departs-each}
use Rattle.timetable.proofs.HeldLemmas.{listed-held}
use Rattle.timetable.proofs.Words.{Contains-map}
use Rattle.board_laws.specs.declared.rows.BoardRow.{BoardRow}
use Rattle.board_laws.specs.Boards.{IsRow, board, is_row_before, row_cmp}
use Rattle.board_laws.proofs.BoardLemmas.{board-only}
use Rattle.board_laws.proofs.Ordered.{goes-take, take-complete}
use Rattle.departures.specs.Rows.{is_of_station, row_at}
use Rattle.departures.proofs.RowLemmas.{departure-row, row-departure, shown_row}

-- rows of the order of departures are in the order of rows
lt-Less : (o : Ordering) → is_lt o ≡ true → o ≡ Less
lt-Less Less h = refl
lt-Less Equal h = cc
lt-Less Greater h = cc

before-trans : (a b c : BoardRow) → is_row_before a b ≡ true → is_row_before b c ≡ true → is_row_before a c ≡ true
unfolding is_row_before
before-trans a b c h k =
    let total : IsTotalOrder row_cmp = then_total (on_total (λ r. r.time) nat_cmp_total) (on_total (λ r. r.event) keys_total) in
    ap is_lt (total.trans a b c (lt-Less (row_cmp a b) h) (lt-Less (row_cmp b c) k))

-- the third comparison tells nothing where the second does
then-less : (a b c : Ordering) → is_lt (ordering_then a (ordering_then b c)) ≡ true → (b ≡ Equal → ⊥) → is_lt (ordering_then a b) ≡ true
then-less Less b c h apart = refl
then-less Equal Less c h apart = refl
then-less Equal Equal c h apart = absurd (apart refl)
then-less Equal Greater c h apart = absurd (cc)
then-less Greater b c h apart = absurd (cc)

shown-before : (st : State) (a b : Departure) → leaves_before a b ≡ true → a.key ≢ b.key → is_row_before (shown_row st a) (shown_row st b) ≡ true
unfolding leaves_before is_row_before
shown-before st a b h apart = then-less (nat_cmp a.time b.time) (key_cmp a.key b.key) (nat_cmp a.stop b.stop) h (λ same. apart (exact_keys a.key b.key same))

module _ (nw : Network) (st : State) (o : Ordered) (valid : IsValid nw st) (at_stops : AreAtStops nw.stops st) (is : IsDepartureOrder nw st o)
    (rise : AllPairs (λ a b. leaves_before a b ≡ true) o.departures) (keys : AllPairs (λ a b. a.key ≢ b.key) o.departures) (calls : HaveDistinctCalls o.entries)
    (place since : ℕ) where
  abbrev here : ℕ
  here = station nw.stops place

  abbrev from : List Departure
  from = filter (λ d. nat_le since d.time) o.departures

  abbrev is_here : Departure → Bool
  is_here d = is_of_station nw here d.stop

  -- the departures that are shown
  abbrev shown : List Departure
  shown = filter is_here from

  -- a departure is found by the number with which a scan comes to it
  own-number : (d : Departure) → Contains o.departures d → held o.entries (number_or_past o.entries d.key.train d.key.label) ≡ Some d
  own-number d there =
      let at = listed-held o.entries d (subst (λ ds. Contains ds d) is.entries there) in
      rw (one-number o.entries d.key.train d.key.label at.0 d calls at.1 (own-call d)) at.1

  rows-are : (ds : List Departure) → All (Contains o.departures) ds
      → filter_map (row_at nw st o here) (map (leaving_of o) ds) ≡ map (shown_row st) (filter is_here ds)
  rows-are [] there = refl
  rows-are (d ∷ ds) there =
      let rest = rows-are ds (All-tail (Contains o.departures) d ds there) in
      let own = own-number d (All-head (Contains o.departures) d ds there) in
      elim (cases_Bool (is_here d)) [
        | inl shows ↦ rw (shows, own) (ap (λ rs. shown_row st d ∷ rs) rest)
        | inr hides ↦ rw hides rest
      ]

  each-row : All (IsRow nw st place since) (map (shown_row st) shown)
  each-row =
      All-map (IsRow nw st place since) (shown_row st) shown (λ i d l.
      let x = get_or shown i d in
      let each = subst (All (IsDeparture nw st)) (sym is.departures) (departs-each nw st) in
      departure-row nw st valid place since x
      (All-filter is_here (IsDeparture nw st) from (All-filter (λ d. nat_le since d.time) (IsDeparture nw st) o.departures each) i d l)
      (filter_passes is_here from i d l)
      (leb-true since x.time (All-filter is_here (λ d. nat_le since d.time ≡ true) from (filter_passes (λ d. nat_le since d.time) o.departures) i d l)))

  in-order : AllPairs (λ r s. is_row_before r s ≡ true) (map (shown_row st) shown)
  in-order =
      let R : Departure → Departure → Type 0 = λ a b. is_row_before (shown_row st a) (shown_row st b) ≡ true in
      AllPairs-map (λ r s. is_row_before r s ≡ true) (shown_row st) shown
      (AllPairs-filter R is_here from (AllPairs-filter R (λ d. nat_le since d.time) o.departures (λ i j d l m.
      shown-before st (get_or o.departures i d) (get_or o.departures j d) (rise i j d l m) (keys i j d l m))))

  all-there : (r : BoardRow) → IsRow nw st place since r → Contains (map (shown_row st) shown) r
  all-there r row =
      let has = row-departure nw st valid at_stops place since r row in
      let d = departing nw st r.event in
      let listed = subst (λ ds. Contains ds d) (sym is.departures) has.listed in
      let there = Contains-filter (λ d. nat_le since d.time) o.departures d listed (le-leb since d.time has.late) in
      subst (Contains (map (shown_row st) shown)) has.own (Contains-map (shown_row st) shown d (Contains-filter is_here from d there has.here))

  -- the first rows of the scan are the board
  pub first-rows : (n : ℕ) → take n (filter_map (row_at nw st o here) (map (leaving_of o) from)) ≡ board nw st place since n
  first-rows n =
      let rows = map (shown_row st) shown in
      ap (take n) (rows-are from (All-filter (λ d. nat_le since d.time) (Contains o.departures) o.departures (All-contains_itself o.departures)))
      ∙ board-only nw st valid place since n (take n rows) (record {
        rows_are = All-take (IsRow nw st place since) n rows each-row;
        order = goes-take is_row_before before-trans n rows in-order;
        most = omega (arith, length-take n rows);
        complete = λ r row. take-complete is_row_before before-trans n rows r in-order (all-there r row);
      })

  -- the rows so far are the board once there are n of them, or none is left
  pub board-so-far : (n station : ℕ) → station ≡ here → (rows : List BoardRow) (left : List Leaving)
      → rows ++ filter_map (row_at nw st o station) left ≡ filter_map (row_at nw st o station) (map (leaving_of o) from)
      → length rows ≤ n → (length rows ≡ n) ⊎ (left ≡ []) → rows ≡ board nw st place since n
  board-so-far n station same rows left whole few (inl full) =
      let more = filter_map (row_at nw st o station) left in
      sym (take-append-le n rows more (omega arith) ∙ take_all n rows few) ∙ ap (take n) whole
      ∙ ap (λ s. take n (filter_map (row_at nw st o s) (map (leaving_of o) from))) same ∙ first-rows n
  board-so-far n station same rows left whole few (inr none) =
      sym (take_all n rows few) ∙ ap (take n) (sym (append-nil rows) ∙ ap (λ xs. rows ++ filter_map (row_at nw st o station) xs) (sym none) ∙ whole)
      ∙ ap (λ s. take n (filter_map (row_at nw st o s) (map (leaving_of o) from))) same ∙ first-rows n
