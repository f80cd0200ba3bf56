-- The edges that are found at an event are those of the model.
use Rattle.edge_rules.proofs.Words.{found-there, is_call, seen, train_edges-each, trains-each, elements, Train, ◌≡◌, filter_passes, filter, get_or, refl, true, false, ◌++◌, Some, arith, All, IsPermutation, filter-append, All-map, All-filter, IsPermutation-append_right, IsPermutation-sym, All-permutation, Node, State, Event, is_stop, events, event_named, Indexed, outgoing, edges_to, edges_from, along_to, along_from, AreAtStops, IsAtStop, planned_at, kept_at, HasLiveEvent, HaveLiveEvents, HasOwnLabels, IsConsistent, Inside, IsIndexOf, entry_of, GraphState, may_change, transfers_to, Shift, Into, From, Changing, WaitsAt, Edge}
use Rattle.edge_rules.proofs.FoundLemmas.{found}
use Rattle.edge_rules.proofs.ShortWaits.{AreWithin}
use Rattle.edge_rules.proofs.Neighbours.{each-named, named-at}
use Rattle.edge_rules.proofs.TransferLemmas.{edges-at, filter-pieces, filter-whole}

module _ (g : GraphState) (index : Indexed) (n : Node) (v : Event) (labels : All HasOwnLabels g.state.trains) (stops : AreAtStops g.network.stops g.state) (is : IsIndexOf g.state index) (named : event_named g.state n ≡ Some v) where
  -- an event that is found is at a stop
  at_stop : (m : Node) (u : Event) → event_named g.state m ≡ Some u → is_stop g.network.stops u.stop ≡ true
  at_stop m u there =
      let at = named-at g.state m u there in
      grind (arith, at, elements, trains-each (λ (t : Train). All (IsAtStop g.network.stops) t.calls) g.state.trains stops m.train m.train at.train, found-there (is_call m.label) at.train.calls at.call)

  all : All (λ u. is_stop g.network.stops u.stop ≡ true) (events g.state)
  all i d l = at_stop _ _ (each-named g.state labels i d l)

  pub transfers-to_found : (waits : WaitsAt) → IsPermutation (planned_at g index.entries (Into waits) v ++ kept_at g true v) (transfers_to g v)
  transfers-to_found waits = found g index.entries is.entries labels all (Into waits) v (at_stop n v named) (λ s e. absurd (cc))

  pub edges-to_found : (waits : WaitsAt) → IsPermutation (along_to g.network.opts g.state n ++ (planned_at g index.entries (Into waits) v ++ kept_at g true v)) (edges_to g n)
  edges-to_found waits = rw (edges-at g n v labels named).0 (IsPermutation-append_right _ _ _ (transfers-to_found waits))

  pub edges-from_found : IsPermutation (along_from g.network.opts g.state n ++ (planned_at g index.entries From v ++ kept_at g false v)) (edges_from g n)
  edges-from_found =
      rw (edges-at g n v labels named).1 (IsPermutation-append_right _ _ _ (found g index.entries is.entries labels all From v (at_stop n v named) (λ s e. absurd (cc))))

  pub edges-changing_found : (shift : Shift) → AreWithin shift.longest_wait g.network.rules → IsPermutation (along_from g.network.opts g.state n ++ (planned_at g index.entries (Changing shift) v ++ kept_at g false v)) (filter (may_change shift.was shift.is) (edges_from g n))
  unfolding outgoing
  edges-changing_found shift short =
      let P : Edge → Type 0 = λ e. may_change shift.was shift.is e ≡ true in
      let along = filter-whole (may_change shift.was shift.is) (along_from g.network.opts g.state n) (rw named (All-filter _ P _ (train_edges-each g.network.opts g.state P (λ u w h. refl)))) in
      rw ((edges-at g n v labels named).1, filter-append, along, filter-pieces) (IsPermutation-append_right _ _ _ (found g index.entries is.entries labels all (Changing shift) v (at_stop n v named) (λ s e. grind (arith, short))))

-- the entries of the index are those of live events
pub index-events : (st : State) (index : Indexed) → All HasOwnLabels st.trains → IsIndexOf st index → HaveLiveEvents st index.entries
index-events st index labels is =
    let live = All-filter (λ (v : Event). v.live) (λ v. v.live ≡ true → HasLiveEvent st (entry_of v)) (events st) (λ i d l k. record { event = get_or (events st) i d; named = each-named st labels i d l; entry = refl; live = k }) in
    All-permutation (HasLiveEvent st) _ _ (IsPermutation-sym _ _ is.entries) (All-map (HasLiveEvent st) entry_of _ (λ i d l. live i d l (filter_passes _ (events st) i d l)))

-- what holds of a graph as it is seen
pub record Holds (a : Inside) (g : GraphState) : Type 0 where
  pub labels : All HasOwnLabels g.state.trains
  pub stops : AreAtStops g.network.stops g.state
  pub index : IsIndexOf g.state a.index
  pub entries : HaveLiveEvents g.state a.index.entries

pub holds : (a : Inside) (g : GraphState) → IsConsistent a → seen a ≡ g → Holds a g
holds a g h is = grind (arith, index-events)
