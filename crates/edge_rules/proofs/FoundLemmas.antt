-- The edges between trains that are found at an event are those of all pairs of events.
use Rattle.edge_rules.proofs.Words.{◌≡◌, ℕ, Bool, true, false, not, cond, List, [], ◌++◌, flat_map, map, filter, range_with_len, length, get_or, Option, Some, None, refl, sym, ◌∙◌, arith, Less, All, Contains, AllPairs, IsPermutation, IsPermutation-trans, IsPermutation-sym, option_map_or, nat_tests, slice_get_within, Entry, Network, Node, node_of, node_cmp, is_same_node, same_node-is, same_node-itself, Override, Event, Edge, is_stop, events, event_named, live_events, transfer, override_of, Change, is_in_range, into-each, from-each, may_change, first_near, last_near, tables_in, planned_with, planned_by, planned_at, kept_at, kept_with, of_entry, of_name, Shift, Into, From, Changing, HasOwnLabels, entry_of, GraphState, Wanted, transfer_between, ◌↔◌, Contains-get_or, IsPermutation-append, change_between, is_keep, into-rises, from-rises, are_into, joined_stops, kept_names}
use Rattle.std.proofs.lemmas.Cmp.{tied_itself}
use Rattle.std.proofs.lemmas.List.Folds.{flat_map-map}
use Rattle.std.proofs.lemmas.List.FromFn.{get_or-range_with_len, length-range_with_len}
use Rattle.mt_base.proofs.KeyLemmas.{nodes_total}
use Rattle.delay_model.specs.declared.overrides.Override.TheVariants.{Keep}
use Rattle.change_times.specs.Reach.{change_from, change_to, reached, reached_back}
use Rattle.edge_rules.proofs.Neighbours.{named-is, each-named}
use Rattle.edge_rules.proofs.PieceLemmas.{pieces-none, pieces-same, pieces-one, pieces-joined, pieces-turned, pieces-permuted, pieces-filter, pieces-filter_map}
use Rattle.edge_rules.proofs.ShortWaits.{AreWithin, wait-within}
use Rattle.edge_rules.proofs.TransferLemmas.{piece}

-- the edges that are wanted between two events
abbrev pub wanted_between : GraphState → Wanted → Event → Event → List Edge
wanted_between g (Into waits) v u = transfer_between g u v
wanted_between g From v u = transfer_between g v u
wanted_between g (Changing shift) v u = filter (may_change shift.was shift.is) (transfer_between g v u)

-- the edge by the change that there is between two events, where nothing was chosen for them
abbrev pub plan : GraphState → Wanted → Event → Event → List Edge
plan g wanted v u = option_map_or (λ w. planned_with g wanted v w u) (cond (are_into wanted) (change_between g.network u v) (change_between g.network v u)) []

-- the edge where their connection is kept
abbrev pub choice : GraphState → Bool → Event → Event → List Edge
choice g into v u = cond (option_map_or is_keep (cond into (override_of g.state u v) (override_of g.state v u)) false) (kept_with g into v u) []

-- what was chosen decides, and a kept connection may always change a time
parts : (g : GraphState) (wanted : Wanted) (v u : Event) → wanted_between g wanted v u ≡ plan g wanted v u ++ choice g (are_into wanted) v u
unfolding transfer
parts g wanted v u = grind arith

-- outside the range that is searched no event is planned to be reached, and no edge may change a time
far-none : (g : GraphState) (wanted : Wanted) (v u : Event) (w : ℕ) (near : Bool) → ((shift : Shift) → wanted ≡ Changing shift → AreWithin shift.longest_wait g.network.rules) → is_in_range u.stop (not (are_into wanted)) (first_near g.network.opts.window wanted v.key.time w) (last_near g.network.opts.window wanted v.key.time w) (entry_of u) ≡ near → cond near (planned_with g wanted v w u) [] ≡ planned_with g wanted v w u
far-none g wanted v u w true short is = refl
far-none g (Changing shift) v u w false short far = let wait = wait-within shift.longest_wait g.network v u (short shift refl) in grind (arith, nat_tests)
far-none g wanted v u w false short far = grind (arith, nat_tests)

-- of the names of the kept events an event is one where its connection is kept
by-choice : (piece : List Edge) (n : Node) (names : List Node) (o : Option Override) → AllPairs (λ a b. node_cmp a b ≡ Less) names → (Contains names n ↔ (o ≡ Some Keep)) → flat_map (λ x. cond (is_same_node n x) piece []) names ≡ cond (option_map_or is_keep o false) piece []
by-choice piece n names (Some Keep) rise each =
    let c = each.1 refl in
    pieces-one _ (λ x. x) names n c.0 (λ i j d l m same. grind (arith, rise i j d l m, tied_itself nodes_total (get_or names j d))) c.1 c.2 (λ x other. grind (arith, other, same_node-is n x)) ∙ rw (same_node-itself n) refl
by-choice piece n names o rise each =
    pieces-none _ names (λ i d l. grind (arith, each.0, Contains-get_or names i d l, same_node-is n))

-- which names are kept at an event, and that they rise
names-kept : (g : GraphState) (into : Bool) (v u : Event) → flat_map (λ x. cond (is_same_node (node_of u.key) x) (kept_with g into v u) []) (kept_names g.state into (node_of v.key)) ≡ choice g into v u
names-kept g true v u = by-choice _ (node_of u.key) _ (override_of g.state u v) (into-rises g.state.overrides (node_of v.key)) (into-each g.state.overrides (node_of v.key) (node_of u.key))
names-kept g false v u = by-choice _ (node_of u.key) _ (override_of g.state v u) (from-rises g.state.overrides (node_of v.key)) (from-each g.state.overrides (node_of v.key) (node_of u.key))

-- the changes between a stop and others
joined-is : (nw : Network) (into : Bool) (stop : ℕ) (h : Change → List Edge) → is_stop nw.stops stop ≡ true → flat_map h (joined_stops (tables_in nw) into stop) ≡ flat_map (λ a. option_map_or h (cond into (change_from (tables_in nw) stop a) (change_to (tables_in nw) stop a)) []) (range_with_len 0 (length nw.stops))
unfolding reached reached_back
joined-is nw into stop h here = grind (arith, here, pieces-filter_map h)

module _ (g : GraphState) (es : List Entry) (index : IsPermutation es (map entry_of (live_events (events g.state)))) (labels : All HasOwnLabels g.state.trains) (stops : All (λ u. is_stop g.network.stops u.stop ≡ true) (events g.state)) (wanted : Wanted) (v : Event) where
  -- what is found by a name is the piece of the event that has it
  by-name : (f : Event → List Edge) (x : Node) (o : Option Event) → event_named g.state x ≡ o → option_map_or f o [] ≡ flat_map (λ u. cond (is_same_node (node_of u.key) x) (f u) []) (events g.state)
  by-name f x (Some w) e = grind (arith, e, piece g x w labels e (λ u. cond (is_same_node (node_of u.key) x) (f u) []) (λ u differ. grind (arith, differ, named-is g.state x w e, same_node-is (node_of u.key) x)), named-is g.state x w e, same_node-itself x)
  by-name f x None e =
      sym (pieces-none _ (events g.state) (λ i d l. grind (arith, e, each-named g.state labels i d l, same_node-is (node_of (get_or (events g.state) i d).key) x)))

  kept-found : IsPermutation (kept_at g (are_into wanted) v) (flat_map (choice g (are_into wanted) v) (events g.state))
  kept-found =
      let f = kept_with g (are_into wanted) v in
      let h : Node → Event → List Edge = λ x u. cond (is_same_node (node_of u.key) x) (f u) [] in
      rw (pieces-same (of_name g.state f) (λ x. flat_map (h x) (events g.state)) _ (λ i d l. by-name f _ _ refl), ← pieces-same (λ u. flat_map (λ x. h x u) _) (choice g (are_into wanted) v) (events g.state) (λ i d l. names-kept g (are_into wanted) v (get_or (events g.state) i d)))
      (pieces-turned h (kept_names g.state (are_into wanted) (node_of v.key)) (events g.state))

  module _ (here : is_stop g.network.stops v.stop ≡ true) (short : (shift : Shift) → wanted ≡ Changing shift → AreWithin shift.longest_wait g.network.rules) where
    -- what the event of an entry makes by a change, if it is near by that
    abbrev at : Change → Entry → List Edge
    at c e = cond (is_in_range c.stop (not (are_into wanted)) (first_near g.network.opts.window wanted v.key.time c.seconds) (last_near g.network.opts.window wanted v.key.time c.seconds) e) (of_entry g.state (planned_with g wanted v c.seconds) e) []

    -- by the changes an event makes its piece by the one at its own stop
    own : (u : Event) → is_stop g.network.stops u.stop ≡ true → event_named g.state (node_of u.key) ≡ Some u → flat_map (λ c. at c (entry_of u)) (joined_stops (tables_in g.network) (are_into wanted) v.stop) ≡ plan g wanted v u
    own u there named =
        let n = length g.network.stops in
        let place = get_or-range_with_len 0 n in
        joined-is g.network (are_into wanted) v.stop (λ c. at c (entry_of u)) here
        ∙ pieces-one _ (λ a. a) (range_with_len 0 n) u.stop u.stop (λ i j d l m. grind (arith, place, length-range_with_len 0 n)) (grind (arith, there, slice_get_within g.network.stops u.stop, length-range_with_len 0 n)) (grind (arith, there, slice_get_within g.network.stops u.stop, place)) (λ a other. grind (arith, nat_tests, other))
        ∙ grind (arith, there, named, λ (w : ℕ). far-none g wanted v u w _ short refl)

    planned-found : IsPermutation (planned_at g es wanted v) (flat_map (plan g wanted v) (events g.state))
    planned-found =
        let by_entry : Entry → List Edge = λ e. flat_map (λ c. at c e) (joined_stops (tables_in g.network) (are_into wanted) v.stop) in
        let by_event = pieces-same (λ u. cond u.live (by_entry (entry_of u)) []) (plan g wanted v) (events g.state) (λ i d l. rw (own (get_or (events g.state) i d) (stops i d l) (each-named g.state labels i d l)) (grind arith)) in
        rw (pieces-same (planned_by g es wanted v) (λ c. flat_map (at c) es) _ (λ i d l. pieces-filter _ _ es))
        (IsPermutation-trans _ _ _ (pieces-turned at _ es) (rw (flat_map-map by_entry entry_of, pieces-filter (λ u. by_entry (entry_of u)) (λ (u : Event). u.live), by_event) at (pieces-permuted by_entry es _ index)))

    -- what is found at an event are the edges between trains there that are wanted
    pub found : IsPermutation (planned_at g es wanted v ++ kept_at g (are_into wanted) v) (flat_map (wanted_between g wanted v) (events g.state))
    found =
        rw (pieces-same (wanted_between g wanted v) (λ u. plan g wanted v u ++ choice g (are_into wanted) v u) (events g.state) (λ i d l. parts g wanted v (get_or (events g.state) i d)))
        (IsPermutation-trans _ _ _ (IsPermutation-append _ _ _ _ planned-found kept-found) (IsPermutation-sym _ _ (pieces-joined (plan g wanted v) (choice g (are_into wanted) v) (events g.state))))
