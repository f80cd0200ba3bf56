-- Of the edges between trains those at an event.
use Rattle.edge_rules.proofs.Words.{elements, ◌≡◌, Bool, List, [], ◌∷◌, ◌++◌, flat_map, Some, refl, arith, All, filter, filter-append, Key, Node, node_of, is_same, same-itself, Event, Edge, events, event_named, edges, transfer, incoming, All-flat_map, AreApart, labels-apart, outgoing, edges_to, edges_from, along_to, along_from, HasOwnLabels, GraphState, transfer_between}
pub use Rattle.station_index.proofs.PlaceLemmas.{all-pass as filter-whole}
use Rattle.edge_rules.proofs.InLine.{filter-none, apart-left}
use Rattle.edge_rules.proofs.Caps.{there}
use Rattle.edge_rules.proofs.PieceLemmas.{pieces-one}

-- what passes a test, of pieces
pub filter-pieces : {X Y : Type 0} (p : Y → Bool) (f : X → List Y) (xs : List X) → filter p (flat_map f xs) ≡ flat_map (λ x. filter p (f x)) xs
filter-pieces p f [] = refl
filter-pieces p f (x ∷ xs) = rw (filter-append p (f x) (flat_map f xs), filter-pieces p f xs)

module _ (g : GraphState) (n : Node) (v : Event) (labels : All HasOwnLabels g.state.trains) (named : event_named g.state n ≡ Some v) where
  -- where the pieces of all others are empty, that of the event is all
  pub piece : {X : Type 0} (f : Event → List X) → ((u : Event) → AreApart u v → f u ≡ []) → flat_map f (events g.state) ≡ f v
  piece f none = let at = there g.state n v named in pieces-one f (λ u. node_of u.key) (events g.state) v at.0 (labels-apart g.state labels) at.1 at.2 none

  pick : (end : Edge → Key) (f : Event → List Edge) → ((u : Event) → All (λ e. end e ≡ u.key) (f u)) → filter (λ e. is_same (end e) v.key) (flat_map f (events g.state)) ≡ f v
  pick end f ends =
      let p : Edge → Bool = λ e. is_same (end e) v.key in
      rw (filter-pieces p f (events g.state), piece (λ u. filter p (f u)) (λ u d. filter-none p (f u) (λ i e l. rw (ends u i e l) (apart-left u v d)))) (filter-whole p (f v) (λ i e l. rw (ends v i e l) (same-itself v.key)))

  -- the edges to an event and those that leave it: along its train, and between trains
  pub edges-at : (edges_to g n ≡ along_to g.network.opts g.state n ++ flat_map (λ u. transfer_between g u v) (events g.state)) × (edges_from g n ≡ along_from g.network.opts g.state n ++ flat_map (transfer_between g v) (events g.state))
  unfolding edges incoming outgoing transfer
  edges-at =
      let into = λ (u : Event). pick (λ e. e.to) (transfer_between g u) (λ w. grind (arith, elements)) in
      let out = pick (λ e. e.from) (λ u. flat_map (transfer_between g u) (events g.state)) (λ u. All-flat_map (λ e. e.from ≡ u.key) (transfer_between g u) (events g.state) (λ i w l. grind (arith, elements))) in
      rw named (rw (filter-append, filter-pieces (λ (e : Edge). is_same e.to v.key)) (simp into), rw filter-append (simp out))
