-- Trains call at stops and platforms alone, also after a change.
use Rattle.edge_rules.proofs.Words.{◌≡◌, ℕ, ◌+◌, true, List, [], ◌∷◌, map, All, All-nil, All-cons, All-tail, get_or, All-map, NewCall, Call, Train, new_calls, begin_run, end_run, arith, StopRow, is_stop, IsAtStop, list_all, change_train, change_calls, elements}

-- what holds of each train, where one is changed
pub change-each : (P : Train → Type 0) (n : ℕ) (f : Train → Train) → ((t : Train) → P t → P (f t)) → (ts : List Train) → All P ts → All P (change_train n f ts)
change-each P n f keeps [] h = h
change-each P n f keeps (t ∷ ts) h = grind (arith, All-cons P, keeps t (h 0 t (omega arith)), h 0 t (omega arith), All-tail P t ts h, λ (m : ℕ). change-each P m f keeps ts (All-tail P t ts h))

module _ (stops : List StopRow) where
  abbrev pub OnStops : Train → Type 0
  OnStops t = All (IsAtStop stops) t.calls

  -- where the calls of one train are changed, at their stops
  pub map-stops : (n : ℕ) (g : Call → Call) → ((c : Call) → (g c).stop ≡ c.stop) → (ts : List Train) → All OnStops ts → All OnStops (change_train n (change_calls (map g)) ts)
  map-stops n g same = change-each OnStops n (change_calls (map g)) (λ t h. All-map (IsAtStop stops) g t.calls (λ i d l. rw (same (get_or t.calls i d)) (h i d l)))

  pub new-each : (label : ℕ) (cs : List NewCall) → list_all (λ (c : NewCall). is_stop stops c.stop) cs ≡ true → All (IsAtStop stops) (new_calls label cs)
  new-each label [] h = All-nil (IsAtStop stops)
  new-each label (c ∷ cs) h = grind (arith, elements, new-each (label + 1) cs)

  pub begin-each : (cs : List Call) → All (IsAtStop stops) cs → All (IsAtStop stops) (begin_run cs)
  begin-each [] h = h
  begin-each (c ∷ cs) h = grind (arith, All-cons (IsAtStop stops), All-nil (IsAtStop stops), h 0 c, All-tail (IsAtStop stops) c cs h)

  pub end-each : (cs : List Call) → All (IsAtStop stops) cs → All (IsAtStop stops) (end_run cs)
  end-each [] h = h
  end-each (c ∷ cs) h = grind (arith, All-cons (IsAtStop stops), All-nil (IsAtStop stops), h 0 c, end-each cs (All-tail (IsAtStop stops) c cs h))
