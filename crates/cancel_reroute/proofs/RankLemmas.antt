-- Edges against rank along events that follow one another.
use Rattle.std.proofs.Common.{◌≡◌, ℕ, suc, Bool, List, [], ◌∷◌, ◌++◌, Option, Some, None, find, refl, sym, ◌∙◌, ap, arith, inl, inr, All}
use Rattle.std.proofs.lemmas.Bool.{cases_Bool}
use Rattle.std.proofs.lemmas.Bool.Decides.{nat_tests}
use Rattle.std.proofs.lemmas.List.Elements.{All-nil}
use Rattle.std.proofs.lemmas.Option.{same_Some}
use Rattle.delay_model.specs.declared.network.Network.{Network}
use Rattle.delay_model.specs.declared.state.State.{State}
use Rattle.delay_model.specs.Cuts as Cuts
use Rattle.delay_model.specs.Cuts.{up_to}
use Rattle.delay_model.specs.Events.{events_of, train_events}
use Rattle.delay_model.specs.Valid.{IsForward, IsValid}
use Rattle.state_laws.proofs.Parts.{All-left, edges-each}
use Rattle.std.specs.List.{slice_get}
use Rattle.delay_model.specs.declared.state.Train.{Train}
use Rattle.std.specs.Option.{option_map, option_or}
use Rattle.std.proofs.lemmas.List.Folds.{find-append}
use Rattle.mt_base.specs.declared.options.Opts.{Opts}
use Rattle.delay_model.specs.declared.messages.Refusal.{Refusal}
use Rattle.delay_model.specs.declared.state.Edge.{Edge}
use Rattle.delay_model.specs.declared.state.Event.{Event}
use Rattle.delay_model.specs.Edges.{edge_on, edges, edges_along}
use Rattle.delay_model.specs.Refusals.{first_against_rank, is_against_rank, against_rank_by}
use Rattle.cancel_reroute.specs.Ranks.{rank_to, rank_along, last_of}

or-assoc : (a b c : Option Refusal) → option_or (option_or a b) c ≡ option_or a (option_or b c)
or-assoc None b c = refl
or-assoc (Some r) b c = refl

-- along events and those after them
along-append : (o : Opts) (before : Option Event) (xs ys : List Event) → rank_along o before (xs ++ ys) ≡ option_or (rank_along o before xs) (rank_along o (last_of before xs) ys)
along-append o before [] ys = refl
along-append o before (x ∷ xs) ys =
    ap (option_or (rank_to o before x)) (along-append o (Some x) xs ys)
    ∙ sym (or-assoc (rank_to o before x) (rank_along o (Some x) xs) (rank_along o (last_of (Some x) xs) ys))

map-or : (a b : Option Edge) → option_map against_rank_by (option_or a b) ≡ option_or (option_map against_rank_by a) (option_map against_rank_by b)
map-or None b = refl
map-or (Some e) b = refl

first-append : (es gs : List Edge) → first_against_rank (es ++ gs) ≡ option_or (first_against_rank es) (first_against_rank gs)
first-append es gs =
    ap (option_map against_rank_by) (find-append is_against_rank es gs)
    ∙ map-or (find is_against_rank es) (find is_against_rank gs)

along-from : (o : Opts) (u : Event) (vs : List Event) → rank_along o (Some u) vs ≡ first_against_rank (edges_along o (u ∷ vs))
along-from o u [] = refl
along-from o u (v ∷ vs) =
    ap (option_or (rank_to o (Some u) v)) (along-from o v vs)
    ∙ sym (first-append (edge_on o u (v ∷ vs)) (edges_along o (v ∷ vs)))

along-edges : (o : Opts) (vs : List Event) → rank_along o None vs ≡ first_against_rank (edges_along o vs)
along-edges o [] = refl
along-edges o (v ∷ vs) = along-from o v vs

-- the first edge against rank along three parts of a train
pub along-parts : (o : Opts) (xs ys zs : List Event) → first_against_rank (edges_along o (xs ++ (ys ++ zs))) ≡ option_or (rank_along o None xs) (option_or (rank_along o (last_of None xs) ys) (rank_along o (last_of (last_of None xs) ys) zs))
along-parts o xs ys zs =
    sym (along-edges o (xs ++ (ys ++ zs)))
    ∙ along-append o None xs (ys ++ zs)
    ∙ ap (option_or (rank_along o None xs)) (along-append o (last_of None xs) ys zs)

or-none : (a : Option Refusal) → option_or a None ≡ a
or-none None = refl
or-none (Some r) = refl

-- where no edge along the events is against rank
none-of : (a b : Option Refusal) → option_or a b ≡ None → (a ≡ None) × (b ≡ None)
none-of None b h = (refl, h)
none-of (Some r) b h = absurd (cc)

-- of those up to one that passes none is, nor of those from one on, but for the edge to that
pub front-clear : (o : Opts) (p : Event → Bool) (before : Option Event) (vs : List Event) → rank_along o before vs ≡ None → rank_along o before (up_to p vs) ≡ None
front-clear o p before [] h = refl
front-clear o p before (v ∷ vs) h =
    let w = none-of (rank_to o before v) (rank_along o (Some v) vs) h in
    elim (cases_Bool (p v)) [
      | inl hit ↦ rw (hit, w.0) refl
      | inr miss ↦ rw (miss, w.0) (front-clear o p (Some v) vs w.1)
    ]

pub back-clear : (o : Opts) (p : Event → Bool) (before last : Option Event) (vs : List Event) (v : Event) → rank_along o before vs ≡ None → find p vs ≡ Some v → rank_along o last (Cuts.from p vs) ≡ rank_to o last v
back-clear o p before last [] v h e = absurd (cc)
back-clear o p before last (u ∷ vs) v h e =
    let w = none-of (rank_to o before u) (rank_along o (Some u) vs) h in
    elim (cases_Bool (p u)) [
      | inl hit ↦ let same : u ≡ v = same_Some u v (rw hit at e) in rw hit (rw w.1 (or-none (rank_to o last u) ∙ ap (rank_to o last) same))
      | inr miss ↦ rw miss (back-clear o p (Some u) last vs v w.1 (rw miss at e))
    ]

-- the last of them up to one that passes is that
pub front-last : (p : Event → Bool) (before : Option Event) (vs : List Event) (v : Event) → find p vs ≡ Some v → last_of before (up_to p vs) ≡ Some v
front-last p before [] v e = absurd (cc)
front-last p before (u ∷ vs) v e =
    elim (cases_Bool (p u)) [
      | inl hit ↦ rw hit (rw hit at e)
      | inr miss ↦ rw miss (front-last p (Some u) vs v (rw miss at e))
    ]

-- edges that lead forward are not against rank
forward-clear : (es : List Edge) → All IsForward es → first_against_rank es ≡ None
forward-clear [] h = refl
forward-clear (e ∷ es) h = let one = h 0 e (omega arith) in grind (arith, nat_tests, one, forward-clear es (λ i d l. h (suc i) d (omega arith)))

-- nor any along a train of a valid state
along-each : (nw : Network) (st : State) (n : ℕ) (P : Edge → Type 0) → ((t : Train) → slice_get st.trains n ≡ Some t → All P (edges_along nw.opts (events_of n t))) → All P (edges_along nw.opts (train_events st n))
along-each nw st n P h = grind (arith, All-nil P)

along-forward : (nw : Network) (st : State) (n : ℕ) → All IsForward (edges nw st) → All IsForward (edges_along nw.opts (train_events st n))
unfolding edges
along-forward nw st n h =
    along-each nw st n IsForward (λ t e. edges-each nw.opts IsForward 0 st.trains (All-left IsForward _ _ h) n n t (omega arith) e)

pub train-clear : (nw : Network) (st : State) (n : ℕ) → IsValid nw st → rank_along nw.opts None (train_events st n) ≡ None
train-clear nw st n valid =
    along-edges nw.opts (train_events st n) ∙ forward-clear (edges_along nw.opts (train_events st n)) (along-forward nw st n valid.forward)
