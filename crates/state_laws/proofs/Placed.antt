-- The events of one train among those of all.
use Rattle.state_laws.proofs.Words.{cap, same_Some, ◌≡◌, ℕ, zero, suc, ◌+◌, ◌≤◌, true, false, List, [], ◌∷◌, ◌++◌, Some, None, refl, ◌∙◌, ap, arith, inl, inr, append_assoc, ◌≢◌}
use Rattle.state_laws.proofs.Words.{false_from_ne_true, All-append, All-nil, All-head, All-tail, All-weaker, All-contains, All-contains_itself, All, Contains, slice_get, is_same, node_of}
use Rattle.state_laws.proofs.Words.{Key, change_train, events_of, events_from, train_events, first_report, after_key, names_of, Event, State, Train, events_at-train, Contains-cases, same-is}
use Rattle.state_laws.proofs.Words.{same-itself}
use Rattle.state_laws.proofs.Changed.{later-trains, Contains-map}
use Rattle.state_laws.proofs.Caps.{after_key-skip}

-- the events of the train that is changed, with those of the trains before and after it
pub record IsPlaced (f : Train → Train) (first n at : ℕ) (ts : List Train) (t : Train) : Type 0 where
  pub before : List Event
  pub after : List Event
  pub old : events_from first ts ≡ before ++ (events_of at t ++ after)
  pub new : events_from first (change_train n f ts) ≡ before ++ (events_of at (f t) ++ after)
  pub others_before : All (λ v. v.key.train ≢ at) before
  pub others_after : All (λ v. v.key.train ≢ at) after

pub placed : (f : Train → Train) (first n at : ℕ) (ts : List Train) (t : Train) → at ≡ first + n → slice_get ts n ≡ Some t → IsPlaced f first n at ts t
placed f first n at [] t e got = absurd (cc)
placed f first zero at (u ∷ us) t e got =
    let is = same_Some u t got in
    let same : at ≡ first = omega arith in
    record {
      before = [];
      after = events_from (first + 1) us;
      old = rw (is, same);
      new = rw (is, same);
      others_before = All-nil (λ (v : Event). v.key.train ≢ at);
      others_after = All-weaker (λ v. first + 1 ≤ v.key.train) (λ v. v.key.train ≢ at) (λ v le own. absurd (omega arith)) _ (later-trains (first + 1) us);
    }
placed f first (suc n) at (u ∷ us) t e got =
    let here = events_of first u in
    let p = placed f (first + 1) n at us t (omega arith) got in
    record {
      before = here ++ p.before;
      after = p.after;
      old = rw (p.old, append_assoc here);
      new = rw (p.new, append_assoc here);
      others_before = All-append (λ v. v.key.train ≢ at) here p.before (All-weaker (λ v. v.key.train ≡ first) (λ v. v.key.train ≢ at) (λ v is same. absurd (omega arith)) here (events_at-train first u.route u.calls)) p.others_before;
      others_after = p.others_after;
    }

-- a train that has an event is there
pub train-there : (st : State) (n : ℕ) (v : Event) → Contains (train_events st n) v → (t : Train) × (slice_get st.trains n ≡ Some t)
train-there st n v h = let l = h.1 in grind arith

-- a key of one train is that of no event of another
pub not-same : (k : Key) (train : ℕ) (es : List Event) → k.train ≡ train → All (λ v. v.key.train ≢ train) es → All (λ v. is_same v.key k ≡ false) es
not-same k train es own others =
    All-weaker (λ v. v.key.train ≢ train) (λ v. is_same v.key k ≡ false) (λ v ne. false_from_ne_true (is_same v.key k) (λ same. ne (ap (λ (k : Key). k.train) (same-is v.key k same) ∙ own))) es others

after_key-within : (es ys : List Event) (w : Event) → Contains es w → after_key w.key (es ++ ys) ≡ after_key w.key es ++ ys
after_key-within [] ys w h = let l = h.1 in absurd (omega arith)
after_key-within (x ∷ xs) ys w h =
    elim (Contains-cases x xs w h) [
      | inl is ↦ let own : is_same x.key w.key ≡ true = rw is (same-itself w.key) in rw own
      | inr there ↦ let rest = after_key-within xs ys w there in grind arith
    ]

none-reported-there : (train : ℕ) (es : List Event) → All (λ v. v.key.train ≢ train) es → first_report train es ≡ None
none-reported-there train [] h = refl
none-reported-there train (v ∷ vs) h =
    let P : Event → Type 0 = λ v. v.key.train ≢ train in
    let here = All-head P v vs h in let rest = none-reported-there train vs (All-tail P v vs h) in grind arith

first_report-within : (train : ℕ) (es ys : List Event) → All (λ v. v.key.train ≢ train) ys → first_report train (es ++ ys) ≡ first_report train es
first_report-within train [] ys h = none-reported-there train ys h
first_report-within train (v ∷ vs) ys h = rw (first_report-within train vs ys h)

-- the first report after an event of a train is the first one after it along the train
pub report-within : (train : ℕ) (xs es ys : List Event) (w : Event) → w.key.train ≡ train → Contains es w → All (λ v. v.key.train ≢ train) xs → All (λ v. v.key.train ≢ train) ys → cap (xs ++ (es ++ ys)) w ≡ first_report train (after_key w.key es)
unfolding cap
report-within train xs es ys w own h hx hy =
    ap (λ train. first_report train (after_key w.key (xs ++ (es ++ ys)))) own
    ∙ rw (after_key-skip w.key xs (es ++ ys) (not-same w.key train xs own hx), after_key-within es ys w h) (first_report-within train (after_key w.key es) ys hy)

-- events whose names are not that of w
pub names-apart : (es : List Event) (w : Event) → All (λ k. k ≢ node_of w.key) (names_of es) → All (λ v. node_of v.key ≢ node_of w.key) es
names-apart es w h =
    All-weaker (Contains es) (λ v. node_of v.key ≢ node_of w.key) (λ v c.
    All-contains (λ k. k ≢ node_of w.key) _ (node_of v.key) h (Contains-map (λ (v : Event). node_of v.key) es v c)) es (All-contains_itself es)

pub apart-keys : (es : List Event) (w : Event) → All (λ v. node_of v.key ≢ node_of w.key) es → All (λ v. is_same v.key w.key ≡ false) es
apart-keys es w h =
    All-weaker (λ v. node_of v.key ≢ node_of w.key) (λ v. is_same v.key w.key ≡ false) (λ v ne. false_from_ne_true (is_same v.key w.key) (λ same. ne (ap node_of (same-is v.key w.key same)))) es h
