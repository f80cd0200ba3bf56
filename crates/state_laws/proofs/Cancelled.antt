-- A cancelled stretch changes no cap, and no edge between two events that stay live.
use Rattle.state_laws.proofs.Words.{◌≡◌, ℕ, true, false, List, None, refl, sym, ◌∙◌, ap, subst, cond_both, All-weaker, All-contains_itself, get, arith, Contains, node_of, effect, stretch}
use Rattle.state_laws.proofs.Words.{is_among, kill_in, events, live_report, connection, refusal, cap, IsValid, Cancel, Network, Connection, Event, State, IsLiveAt}
use Rattle.state_laws.proofs.Cancels.{no-report, no_more, kill_at, kill-mapped, kill-other, stretch-free, cancel-valid}
use Rattle.state_laws.proofs.Untouched.{IsLeft}
use Rattle.state_laws.proofs.Joined.{left-by}
use Rattle.state_laws.proofs.Caps.{cap-mapped}
use Rattle.state_laws.proofs.Mappings.{IsMapping, contains-unmap, mapping-events, mapping-joined, stays-live}
use Rattle.state_laws.proofs.Chosen.{override-stays}

-- an event that stays live is not among those that are cancelled
not-cancelled : (es : List Event) (v : Event) → (kill_at es v).live ≡ true → is_among es (node_of v.key) ≡ false
not-cancelled es v live = grind arith

pub cancel-mapping : (st : State) (n from to : ℕ) → IsMapping st (effect st (Cancel n from to)) n (kill_in (stretch st n from to) n) (kill_at (stretch st n from to))
unfolding effect
cancel-mapping st n from to = record { mapped = kill-mapped n (stretch st n from to); others = kill-other st n from to; shape = λ v. grind arith; trains = refl }

cancel-silent : (nw : Network) (st : State) (n from to : ℕ) → IsValid nw st → refusal nw st (Cancel n from to) ≡ None → (v : Event) → Contains (events st) v → live_report (kill_at (stretch st n from to) v) ≡ live_report v
cancel-silent nw st n from to valid h v hv =
    cond_both (is_among (stretch st n from to) (node_of v.key)) (no_more v) v (λ w. live_report w ≡ live_report v) (λ hit.
    sym (no-report (live_report v) (stretch-free nw st n from to valid h v hv hit))) (λ _. refl)

module _ (nw : Network) (st new : State) (n : ℕ) (es : List Event) (m : IsMapping st new n (kill_in es n) (kill_at es)) (before : IsValid nw st) (after : IsValid nw new) (silent : (v : Event) → Contains (events st) v → live_report (kill_at es v) ≡ live_report v) (overrides : (p : Connection) → is_among es p.arrival ≡ false → is_among es p.departure ≡ false → get st.overrides p ≡ get new.overrides p) where
  was-there : (w : Event) → w.live ≡ true → (u : Event) → Contains (events st) u → kill_at es u ≡ w → Contains (events st) w × (is_among es (node_of w.key) ≡ false)
  was-there w live u hu at =
      let miss = not-cancelled es u (rw at live) in
      let same : u ≡ w = rw miss at at in (rw same at hu, rw same at miss)

  cancelled-left : (w : Event) → Contains (events new) w → w.live ≡ true → IsLeft nw st new w
  cancelled-left w hw live =
      let k = kill_at es in
      let all = events st in
      let is_new = mapping-events st new n (kill_in es n) k m in
      let r = contains-unmap k all w (subst (λ vs. Contains vs w) is_new hw) in
      let old = was-there w live r.0 r.1 r.2 in
      left-by nw st new w before after old.0 hw (λ _.
      sym (ap (λ vs. cap vs w) is_new
      ∙ cap-mapped k m.mapped.keys all w (All-weaker (Contains all) (λ v. v.key.train ≡ w.key.train → live_report (k v) ≡ live_report v) (λ v hv _. silent v hv) all (All-contains_itself all))))
      (mapping-joined nw st new n (kill_in es n) k m before w hw live (λ j at on.
      let v = at.0 in
      let lives = stays-live nw st new n (kill_in es n) k m before v at.1 (subst (IsLiveAt (events new)) (sym at.2) on) in
      overrides (connection (node_of j) (node_of w.key)) (subst (λ i. is_among es (node_of i) ≡ false) at.2 (not-cancelled es v lives)) old.1))

pub cancel-left : (nw : Network) (st : State) (n from to : ℕ) → IsValid nw st → refusal nw st (Cancel n from to) ≡ None → (w : Event) → Contains (events (effect st (Cancel n from to))) w → w.live ≡ true → IsLeft nw st (effect st (Cancel n from to)) w
unfolding effect
cancel-left nw st n from to valid h w hw live =
    let es = stretch st n from to in
    cancelled-left nw st (effect st (Cancel n from to)) n es (cancel-mapping st n from to) valid (cancel-valid nw st n from to valid h) (cancel-silent nw st n from to valid h)
    (override-stays st.overrides es) w hw live
