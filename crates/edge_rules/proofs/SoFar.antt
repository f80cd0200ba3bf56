-- What edges ask for, as far as these have come.
use Rattle.edge_rules.proofs.Words.{Change, drop, flat_map, get_or, ◌≡◌, ℕ, ◌+◌, ◌<◌, ◌^◌, List, [], ◌++◌, refl, arith, All, All-right, Edge, IsLater, IsReady, fold, later, length, length-append, stored_time}
use Rattle.std.proofs.Math.Seq.{drop-cons}
use Rattle.std.proofs.lemmas.List.Sums.{fold-append}
use Rattle.train_nodes.specs.Times.{StoredTimes}

-- from the time and the steps so far the edges that are left lead to where all lead from the first
pub record IsSoFar (k : StoredTimes) (so_far steps : ℕ) (all : List Edge) (time spent : ℕ) (left : List Edge) : Type 0 where
  pub value : fold (later (stored_time k)) time left ≡ fold (later (stored_time k)) so_far all
  pub cost : spent + length left ≡ steps + length all
  pub ready : All (IsReady k) left
  pub small : time < 2 ^ 25

pub begins : (k : StoredTimes) (so_far steps : ℕ) (all : List Edge) → All (IsReady k) all → so_far < 2 ^ 25 → IsSoFar k so_far steps all so_far steps all
begins k so_far steps all ready small = record { value = refl; cost = refl; ready = ready; small = small }

module _ {k : StoredTimes} {so_far steps : ℕ} {all : List Edge} {time spent : ℕ} where
  pub goes-on : (first rest : List Edge) (now used : ℕ) → IsSoFar k so_far steps all time spent (first ++ rest) → IsLater k time spent first now used → IsSoFar k so_far steps all now used rest
  goes-on first rest now used h next =
      let ready = All-right (IsReady k) first rest h.ready in
      grind (arith, h, next, ready, fold-append (later (stored_time k)) time first rest, length-append {A = Edge} first rest)

  pub ends : IsSoFar k so_far steps all time spent [] → IsLater k so_far steps all time spent
  ends h = grind (arith, h)

-- by the changes from a place on come the edges by the one there, and then those by the later ones
pub at-change : (f : Change → List Edge) (cs : List Change) (i : ℕ) (c : Change) → i < length cs → c ≡ get_or cs i c → flat_map f (drop i cs) ≡ f c ++ flat_map f (drop (i + 1) cs)
at-change f cs i c l is = grind (arith, drop-cons cs i c l, is)

-- what loops over edges need
pub ruleset so_far = (begins, ends)
