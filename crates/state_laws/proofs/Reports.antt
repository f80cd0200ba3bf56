-- What a report leaves of an event that it does not name: its cap too, unless it is reported itself.
use Rattle.state_laws.proofs.Words.{get_or, map_fixed, ◌≡◌, ℕ, ◌^◌, ◌<◌, true, false, ◌&&◌, List, [], ◌∷◌, ◌++◌, Option, Some, None, IfSome, map, refl, sym, ◌∙◌, ap, arith, inl, inr, ◌≢◌, cond_both, common_steps}
use Rattle.state_laws.proofs.Words.{true_from_ne_false, cases_Bool, cases_eq, false_from_ne_true, not-false, All-head, All-tail, All-contains, Contains-append_cases, All, AllPairs, Contains}
use Rattle.state_laws.proofs.Words.{list_any, node_of, is_same, Node, before, with_event, with_report, change_labelled, change_event, change_calls, events, events_of, train_events}
use Rattle.state_laws.proofs.Words.{is_event, is_live, live_events, refusal, first_report, after_key, capped_by, since_report, is_reported, names_of, IsValid, Report, Correct, Network, Event, State, AreApart}
use Rattle.state_laws.proofs.Words.{events_at-train, AllPairs-tail, AllPairs-after, Contains-cases, Contains-there, Contains-filter, same-is, same-itself}
use Rattle.state_laws.proofs.Parts.{All-left, All-right}
use Rattle.state_laws.proofs.Changed.{Contains-map, events_at-mapped}
use Rattle.state_laws.proofs.Accepted.{accepted-by}
use Rattle.state_laws.proofs.Extras.{none-live}
use Rattle.state_laws.proofs.Values.{any-there, other-event, set_at, put_report, sets-report, report-valid, correct-valid, train-apart}
use Rattle.state_laws.proofs.Untouched.{IsLeft}
use Rattle.state_laws.proofs.Caps.{cap-mapped, after_key-mapped, All-after_key}
use Rattle.state_laws.proofs.Mappings.{mapping-events}
use Rattle.state_laws.proofs.Placed.{placed, train-there, report-within}
use Rattle.state_laws.proofs.Settings.{not-event, set-mapping, set-there, set-left}

since-among : (es : List Event) (w : Event) → Contains (since_report es) w → Contains es w
since-among [] w h = h
since-among (v ∷ vs) w h =
    cond_both (list_any is_reported (v ∷ vs)) (since_report vs) (v ∷ vs) (λ zs. Contains zs w → Contains (v ∷ vs) w) (λ _ c. Contains-there v vs w (since-among vs w c)) (λ _ c. c) h

module _ (n : Node) (o : Option ℕ) (train : ℕ) where
  abbrev set : Event → Event
  set = set_at n (put_report o)

  set-keys : (v : Event) → (set v).key ≡ v.key
  set-keys v = grind arith

  set-other : (v : Event) → is_event n v ≡ false → set v ≡ v
  set-other v h = rw h

  -- where an event before the named one is reported, that is the first report
  first-before : (es : List Event) → All (λ v. v.key.train ≡ train) es → list_any is_reported (before (is_event n) es) ≡ true → first_report train (map set es) ≡ first_report train es
  first-before [] own h = refl
  first-before (x ∷ xs) own h =
      let rest = first-before xs (All-tail (λ v. v.key.train ≡ train) x xs own) in
      let here = All-head (λ v. v.key.train ≡ train) x xs own in
      grind (arith, common_steps)

  -- of an event that is not reported, and does not stand between the last report and the named event, the next report stays
  since-cap : (w : Event) → w.report ≡ None → is_event n w ≡ false → (es : List Event) → AllPairs AreApart es → All (λ v. v.key.train ≡ train) es → Contains es w → (Contains (since_report (before (is_event n) es)) w → ⊥) → first_report train (map set (after_key w.key es)) ≡ first_report train (after_key w.key es)
  since-cap w silent other [] apart own h free = refl
  since-cap w silent other (x ∷ xs) apart own h free =
      let b = before (is_event n) xs in
      let rest_own = All-tail (λ v. v.key.train ≡ train) x xs own in
      elim (Contains-cases x xs w h) [
        | inl is ↦
            let same : is_same x.key w.key ≡ true = rw is (same-itself w.key) in
            let miss : is_event n x ≡ false = rw is other in
            let some = true_from_ne_false (list_any is_reported (x ∷ b)) (λ none. free (rw (miss, none) (0, omega arith, is))) in
            let unreported : is_reported x ≡ false = rw is (rw (none-live w silent)) in
            rw same (first-before xs rest_own (rw unreported at some))
        | inr there ↦
            let from_x = AllPairs-after AreApart [] x xs apart in
            let differs = false_from_ne_true (is_same x.key w.key) (λ same. All-contains (AreApart x) xs w from_x there (ap node_of (same-is x.key w.key same))) in
            elim (cases_Bool (is_event n x)) [
              | inl hit ↦ rw (differs, map_fixed set (after_key w.key xs) (All-after_key (λ y. set y ≡ y) w.key xs (λ i d l. set-other (get_or xs i d) (other-event n x (get_or xs i d) hit (from_x i d l)))))
              | inr miss ↦
                  rw differs (since-cap w silent other xs (AllPairs-tail AreApart x xs apart) rest_own there (λ c. free (rw miss (
                  cond_both (list_any is_reported (x ∷ b)) (since_report b) (x ∷ b) (λ zs. Contains zs w) (λ _. c) (λ _. Contains-there x b w (since-among b w c))))))
            ]
      ]

-- a report that is given or taken back
given-left : (nw : Network) (st : State) (n : Node) (o : Option ℕ) → IsValid nw st → IsValid nw (with_event n (with_report o) st) → is_live st n ≡ true → (w : Event) → Contains (events (with_event n (with_report o) st)) w → w.live ≡ true → All (λ k. k ≢ node_of w.key) (capped_by st n) → IsLeft nw st (with_event n (with_report o) st) w
unfolding events
given-left nw st n o valid stays named w hw live free =
    let k = put_report o in
    let h = set_at n k in
    let new = with_event n (with_report o) st in
    let s = sets-report o in
    let m = set-mapping st n (with_report o) k s in
    let i = n.train in
    let es = events st in
    let since = since_report (before (is_event n) (train_events st i)) in
    let Free : Node → Type 0 = λ k. k ≢ node_of w.key in
    let ne : n ≢ node_of w.key = All-head Free n [] (All-right Free (names_of (live_events since)) (n ∷ []) free) in
    let other = not-event n w ne in
    let kw = set-there st n (with_report o) k s w hw ne in
    let not_since : Contains since w → ⊥ =
    λ c. All-contains Free (names_of (live_events since)) (node_of w.key) (All-left Free _ (n ∷ []) free)
    (Contains-map (λ (v : Event). node_of v.key) (live_events since) w (Contains-filter (λ (v : Event). v.live) since w c live)) refl
    in
    let found = any-there (λ v. is_event n v && v.live) (train_events st i) named in
    let run = train-there st i found.0 found.1 in
    let u = run.0 in
    let line = events_of i u in
    let own_line : train_events st i ≡ line = cc run.1 in
    let p = placed (change_calls (map (change_labelled n.label (change_event n.dep (with_report o))))) 0 i i st.trains u (omega arith) run.1 in
    set-left nw st n (with_report o) k s valid stays w hw live ne (λ silent.
    elim (cases_eq w.key.train i) [
      | inr differs ↦
          rw (mapping-events st new i _ h m) (sym (cap-mapped h m.mapped.keys es w (λ j d l same. rw (m.others (get_or es j d) (λ at. differs (sym same ∙ at))))))
      | inl own ↦
          let there : Contains line w = elim (Contains-append_cases p.before (line ++ p.after) w (rw p.old at kw)) [
            | inl sooner ↦ absurd (All-contains (λ v. v.key.train ≢ i) p.before w p.others_before sooner own)
            | inr rest ↦ elim (Contains-append_cases line p.after w rest) [
              | inl in_line ↦ in_line
              | inr later ↦ absurd (All-contains (λ v. v.key.train ≢ i) p.after w p.others_after later own)
            ]
          ]
          in
          let still : Contains (map h line) w = rw other at (Contains-map h line w there) in
          let apart = train-apart st valid.trains i i u (omega arith) run.1 in
          rw (p.old, p.new, events_at-mapped i _ h u.route u.calls m.mapped, report-within i p.before line p.after w own there p.others_before p.others_after, report-within i p.before (map h line) p.after w own still p.others_before p.others_after, after_key-mapped h m.mapped.keys w.key line)
          (sym (since-cap n o i w silent other line apart (events_at-train i u.route u.calls) there (rw own_line at not_since)))
    ])

pub report-left : (nw : Network) (st : State) (n : Node) (t : ℕ) → IsValid nw st → t < 2 ^ 24 → refusal nw st (Report n t) ≡ None → (w : Event) → Contains (events (with_event n (with_report (Some t)) st)) w → w.live ≡ true → All (λ k. k ≢ node_of w.key) (capped_by st n) → IsLeft nw st (with_event n (with_report (Some t)) st) w
report-left nw st n t valid small accepts w hw live free =
    given-left nw st n (Some t) valid (report-valid nw st n t valid small accepts) (not-false _ (accepted-by nw st (Report n t) accepts).known) w hw live free

pub correct-left : (nw : Network) (st : State) (n : Node) (o : Option ℕ) → IsValid nw st → IfSome o (λ t. t < 2 ^ 24) → refusal nw st (Correct n o) ≡ None → (w : Event) → Contains (events (with_event n (with_report o) st)) w → w.live ≡ true → All (λ k. k ≢ node_of w.key) (capped_by st n) → IsLeft nw st (with_event n (with_report o) st) w
correct-left nw st n o valid small accepts w hw live free =
    given-left nw st n o valid (correct-valid nw st n o valid small accepts) (not-false _ (accepted-by nw st (Correct n o) accepts).known) w hw live free
