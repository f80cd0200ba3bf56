-- What an extra train leaves of the events of the others.
use Rattle.state_laws.proofs.Words.{◌≡◌, ℕ, ◌+◌, List, [], ◌∷◌, ◌++◌, Some, None, length, refl, sym, ◌∙◌, ap, arith, inl, inr, append_assoc, ◌≢◌, append-nil, All-append, All-cons, All-nil}
use Rattle.state_laws.proofs.Words.{All-head, All-tail, All-contains, Contains-append_left, Contains-append_cases, All, Contains, slice_get, node_of, Key, Opts, NewCall, edges_along}
use Rattle.state_laws.proofs.Words.{edge_on, train_edges, effect, new_train, events, events_of, train_events, live_report, IsSmallCall, refusal, cap, named, IsValid, Extra, Network, Edge}
use Rattle.state_laws.proofs.Words.{Event, State, Train, valid-graph}
pub use Rattle.state_laws.proofs.Extras.{events-push}
use Rattle.state_laws.proofs.Extras.{made, fresh-each, none-live, get-push, extra-number, extra-valid}
use Rattle.state_laws.proofs.Untouched.{IsLeft}
use Rattle.state_laws.proofs.Joined.{left-by}
use Rattle.state_laws.proofs.Caps.{AreSilent, cap-swap}
use Rattle.state_laws.proofs.Placed.{names-apart, apart-keys}
use Rattle.state_laws.proofs.Chosen.{alike-itself}

-- what holds of the keys of a train's events holds of the keys that its edges lead to
pub to-ends : (o : Opts) (P : Key → Type 0) (es : List Event) → All (λ v. P v.key) es → All (λ e. P e.to) (edges_along o es)
to-ends o P [] h = All-nil (λ (e : Edge). P e.to)
to-ends o P (u ∷ []) h = All-nil (λ (e : Edge). P e.to)
to-ends o P (u ∷ v ∷ vs) h =
    let Q : Edge → Type 0 = λ e. P e.to in
    let K : Event → Type 0 = λ v. P v.key in
    let rest = All-tail K u (v ∷ vs) h in
    let head = All-head K v vs rest in
    All-append Q (edge_on o u (v ∷ vs)) (edges_along o (v ∷ vs)) (grind (arith, All-cons Q, All-nil Q)) (to-ends o P (v ∷ vs) rest)

edges-push : (o : Opts) (first at : ℕ) (ts : List Train) (t : Train) → at ≡ first + length ts → train_edges o first (ts ++ t ∷ []) ≡ train_edges o first ts ++ (edges_along o (events_of at t) ++ [])
edges-push o first at [] t e = let same : at ≡ first = omega arith in rw same
edges-push o first at (u ∷ us) t e = rw (edges-push o (first + 1) at us t (omega arith), append_assoc (edges_along o (events_of first u)))

pub extra-left : (nw : Network) (st : State) (n day route : ℕ) (cs : List NewCall) → IsValid nw st → All IsSmallCall cs → refusal nw st (Extra n day route cs) ≡ None → (w : Event) → Contains (events (effect st (Extra n day route cs))) w → All (λ k. k ≢ node_of w.key) (named st (Extra n day route cs)) → IsLeft nw st (effect st (Extra n day route cs)) w
unfolding effect events
extra-left nw st n day route cs valid small h w hw free =
    let o = nw.opts in
    let t = new_train day route cs in
    let ts = st.trains in
    let at = extra-number nw st n day route cs h in
    let got : slice_get (ts ++ t ∷ []) n ≡ Some t = rw at (get-push ts t) in
    let new = effect st (Extra n day route cs) in
    let es = events st in
    let es_new = events_of n t in
    let own : train_events new n ≡ es_new = rw got in
    let Apart : Event → Type 0 = λ v. node_of v.key ≢ node_of w.key in
    let apart : All Apart es_new = names-apart es_new w (rw own at free) in
    let is_new : events new ≡ es ++ es_new = events-push 0 n ts t (omega arith) ∙ rw append-nil in
    let along : train_edges o 0 (ts ++ t ∷ []) ≡ train_edges o 0 ts ++ edges_along o es_new = edges-push o 0 n ts t (omega arith) ∙ rw append-nil in
    let kw : Contains es w = elim (Contains-append_cases es es_new w (rw is_new at hw)) [
      | inl old ↦ old
      | inr fresh ↦ absurd (All-contains Apart es_new w apart fresh refl)
    ]
    in
    let after = extra-valid nw st n day route cs valid small h in
    let silent : AreSilent es_new = fresh-each (λ v. live_report v ≡ None) (λ v _ _ r. none-live v r) 0 (length cs) n route t.calls (made cs small).fresh in
    left-by nw st new w valid after kw hw (λ _.
    ap (λ vs. cap vs w) (sym (append-nil es))
    ∙ cap-swap es [] es_new [] w (All-nil (λ (v : Event). live_report v ≡ None)) silent (apart-keys [] w (All-nil Apart)) (apart-keys es_new w apart)
    ∙ ap (λ vs. cap vs w) (rw append-nil (sym is_new))) (record {
      trains_stay = λ e c _ _. rw along (Contains-append_left (train_edges o 0 ts) _ e c);
      trains_come = λ e c to _.
          elim (Contains-append_cases (train_edges o 0 ts) (edges_along o es_new) e (rw along at c)) [
            | inl old ↦ old
            | inr fresh ↦
                let P : Key → Type 0 = λ k. node_of k ≢ node_of w.key in
                absurd (All-contains (λ e. P e.to) (edges_along o es_new) e (to-ends o P es_new apart) fresh (ap node_of to))
          ];
      alike = λ u v hu hv key _ _. alike-itself u v ((valid-graph nw new after).one u v (rw is_new (Contains-append_left es _ u hu)) hv key);
      choices = λ _ _ _. refl;
    })
