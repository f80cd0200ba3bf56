-- The edges at an event of a graph, and what the functions of a graph need.
use Rattle.edge_rules.proofs.Words.{arith, IsLater, All-left, All-right, length-append, length_permutation, seen, stands_before, ◌≡◌, ℕ, ◌++◌, Some, refl, List, sym, NewCall, Reroute, effect, calls_of, ◌≤◌, length, later, All, AllPairs, AllPairs-filter, AllPairs-nil, All-permutation, All-contains_itself, Contains, IsPermutation, IsPermutation-sym, Node, Edge, Event, Opts, State, Shift, Into, From, Changing, DifferInEnds, edges_to, edges_from, along_to, along_from, planned_at, kept_at, waits_at, transfers_to, true, false, incoming, outgoing, train_edges, event_named, node_of, filter, may_change, stored_time, IsReady, HasOwnLabels, IsConsistent, Inside, GraphState}
use Rattle.delay_model.proofs.OneEdge.{one-edge}
use Rattle.std.proofs.lemmas.List.Sums.{fold-append}
use Rattle.state_laws.proofs.Values.{pairs-right}
use Rattle.train_nodes.specs.Times.{StoredTimes}
use Rattle.edge_rules.proofs.Given.{at-each}
use Rattle.edge_rules.proofs.Reordered.{pairs-permuted}
use Rattle.edge_rules.proofs.ShortWaits.{AreWithin}
use Rattle.edge_rules.proofs.EdgesFound.{index-events, holds, edges-to_found, edges-from_found, edges-changing_found, transfers-to_found}
use Rattle.edge_rules.proofs.NoneFound.{not-chosen, no-event}
use Rattle.edge_rules.proofs.EventChanges.{IsNextLabel, reroute-next, reroute-there}
use Rattle.delay_model.proofs.Bounds.{fold-same}
use Rattle.train_nodes.proofs.EventLemmas.{live-there}
use Rattle.edge_rules.proofs.Neighbours.{named-is, beside, named-there, IsBeside}
use Rattle.edge_rules.proofs.InsideLemmas.{choice_keeps, cancel-there, extra-keeps, reroute-removes, reroute-keeps}

-- of the edges at an event no two lead from one event to one event, also in another order
once : (g : GraphState) (n : Node) → All HasOwnLabels g.state.trains → AllPairs DifferInEnds (edges_to g n) × AllPairs DifferInEnds (edges_from g n)
once g n labels = at-each (AllPairs DifferInEnds) g (AllPairs-nil DifferInEnds) (AllPairs-filter DifferInEnds) (one-edge g.network g.state labels) n

-- these are the edges, each once
abbrev pub IsEach : List Edge → List Edge → Type 0
IsEach found es = IsPermutation found es × AllPairs DifferInEnds found

each : (found es : List Edge) → IsPermutation found es → AllPairs DifferInEnds es → IsEach found es
each found es p once = (p, pairs-permuted DifferInEnds (λ d e h from to. h (sym from) (sym to)) es found (IsPermutation-sym found es p) once)

module _ {a : Inside} {g : GraphState} {v : Event} (h : IsConsistent a) (is : seen a ≡ g) (named : event_named g.state (node_of v.key) ≡ Some v) where
  -- the edges to an event, and those that leave it, are found
  pub edges-found : IsEach (along_to g.network.opts g.state (node_of v.key) ++ (planned_at g a.index.entries (Into (waits_at g v)) v ++ kept_at g true v)) (edges_to g (node_of v.key)) × IsEach (along_from g.network.opts g.state (node_of v.key) ++ (planned_at g a.index.entries From v ++ kept_at g false v)) (edges_from g (node_of v.key))
  edges-found =
      let r = holds a g h is in
      let o = once g (node_of v.key) r.labels in
      (each _ _ (edges-to_found g a.index _ v r.labels r.stops r.index named (waits_at g v)) o.0, each _ _ (edges-from_found g a.index _ v r.labels r.stops r.index named) o.1)

  -- and those between trains that may change a time, where the one along its train stands before them
  pub changing-found : (shift : Shift) → AreWithin shift.longest_wait g.network.rules → let found = planned_at g a.index.entries (Changing shift) v ++ kept_at g false v in IsPermutation (along_from g.network.opts g.state (node_of v.key) ++ found) (filter (may_change shift.was shift.is) (edges_from g (node_of v.key))) × AllPairs DifferInEnds found
  changing-found shift short =
      let r = holds a g h is in
      let all = each _ _ (edges-changing_found g a.index _ v r.labels r.stops r.index named shift short) (AllPairs-filter DifferInEnds (may_change shift.was shift.is) _ (once g (node_of v.key) r.labels).1) in
      (all.0, pairs-right DifferInEnds (along_from g.network.opts g.state (node_of v.key)) _ all.1)

  -- the edges between trains that lead to an event, as they are found
  module _ (k : StoredTimes) where
    to-found : IsPermutation (planned_at g a.index.entries (Into (waits_at g v)) v ++ kept_at g true v) (transfers_to g v)
    to-found = let r = holds a g h is in transfers-to_found g a.index _ v r.labels r.stops r.index named (waits_at g v)

    pub ready-transfers : All (IsReady k) (transfers_to g v) → All (IsReady k) (planned_at g a.index.entries (Into (waits_at g v)) v) × All (IsReady k) (kept_at g true v)
    ready-transfers ready =
        let all = All-permutation (IsReady k) _ _ (IsPermutation-sym _ _ to-found) ready in
        (All-left (IsReady k) _ _ all, All-right (IsReady k) (planned_at g a.index.entries (Into (waits_at g v)) v) _ all)

    -- what they ask for, the planned ones and then the kept ones
    pub later-transfers : (so_far steps time spent last total : ℕ) → IsLater k so_far steps (planned_at g a.index.entries (Into (waits_at g v)) v) time spent → IsLater k time spent (kept_at g true v) last total → IsLater k so_far steps (transfers_to g v) last total
    later-transfers so_far steps time spent last total x y =
        let p = to-found in
        let q = IsPermutation-sym _ _ p in
        let same = fold-same (stored_time k) so_far _ _ (All-permutation (Contains _) _ _ p (All-contains_itself _)) (All-permutation (Contains _) _ _ q (All-contains_itself _)) in
        let long = length_permutation _ _ p in
        grind (arith, x, y, same, long, fold-append (later (stored_time k)) so_far, length-append {A = Edge})

-- the events beside an event are there, by any options
abbrev pub any_opts : Opts
any_opts = record { slack = 0; stop = 0; change = 0; window = 0; spare_trains = 0; spare_calls = 0; overrides = 0 }

pub beside-all : (st : State) (v : Event) → All HasOwnLabels st.trains → event_named st (node_of v.key) ≡ Some v → (event_named st (node_of v.key) ≡ Some v) × IsBeside any_opts st v × ((o : Opts) → (incoming (train_edges o 0 st.trains) v.key ≡ along_to o st (node_of v.key)) × (outgoing (train_edges o 0 st.trains) v.key ≡ along_from o st (node_of v.key)) × IsBeside o st v)
beside-all st v labels named = (named, beside any_opts st labels v named, λ o. (rw named refl, rw named refl, beside o st labels v named))

-- what the edges along a train need
pub ruleset joins = (beside-all, named-there)

-- the labels of new calls
pub reroute-fits : (st : State) (n from to : ℕ) (via : List NewCall) → stands_before from to (calls_of st n) ≡ true → (effect st (Reroute n from to via) ≡ effect st (Reroute n from to via)) × ((next : ℕ) → IsNextLabel (effect st (Reroute n from to via)) n next → length via ≤ next)
reroute-fits st n from to via stands = (refl, λ next h. (reroute-next st n from to next via stands h).0)

-- what the functions of a graph need
pub ruleset graphs = (choice_keeps, not-chosen, no-event, live-there, named-is, named-there, cancel-there, extra-keeps, index-events, reroute-fits, reroute-there, reroute-removes, reroute-keeps)
