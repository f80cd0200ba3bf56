-- The cap of an event stays where what changes after it is not reported.
use Rattle.state_laws.proofs.Words.{◌≡◌, ℕ, false, ◌&&◌, cond, nat_eq, is_some, List, [], ◌∷◌, ◌++◌, Option, None, map, refl, sym, ◌∙◌, arith, All-tail, All-head, All, is_same, Key}
use Rattle.state_laws.proofs.Words.{live_report, first_report, after_key, cap, Event}
use Rattle.delay_model.proofs.AlongTrains.{first_report-passed}

pub All-after_key : (P : Event → Type 0) (k : Key) (es : List Event) → All P es → All P (after_key k es)
All-after_key P k [] h = h
All-after_key P k (v ∷ vs) h = let rest = All-tail P v vs h in grind (arith, All-after_key P k vs)

abbrev pub report_or : ℕ → Key → Option ℕ → Option ℕ → Option ℕ
report_or train k o r = cond (nat_eq k.train train && is_some o) o r

-- events whose keys stay, and on this train the reports
pub first_report-mapped : (h : Event → Event) → ((v : Event) → (h v).key ≡ v.key) → (train : ℕ) (es : List Event) → All (λ v. v.key.train ≡ train → live_report (h v) ≡ live_report v) es → first_report train (map h es) ≡ first_report train es
first_report-mapped h keys train [] same = refl
first_report-mapped h keys train (v ∷ vs) same =
    let P : Event → Type 0 = λ v. v.key.train ≡ train → live_report (h v) ≡ live_report v in
    let rest = first_report-mapped h keys train vs (All-tail P v vs same) in
    let here = All-head P v vs same in
    grind (arith, keys v)

pub after_key-mapped : (h : Event → Event) → ((v : Event) → (h v).key ≡ v.key) → (k : Key) (es : List Event) → after_key k (map h es) ≡ map h (after_key k es)
after_key-mapped h keys k [] = refl
after_key-mapped h keys k (v ∷ vs) = grind (arith, keys v, after_key-mapped h keys k vs)

-- so the cap stays
pub cap-mapped : (h : Event → Event) → ((v : Event) → (h v).key ≡ v.key) → (es : List Event) (w : Event) → All (λ v. v.key.train ≡ w.key.train → live_report (h v) ≡ live_report v) es → cap (map h es) w ≡ cap es w
unfolding cap
cap-mapped h keys es w same =
    rw (after_key-mapped h keys w.key es)
    (first_report-mapped h keys w.key.train _ (All-after_key (λ v. v.key.train ≡ w.key.train → live_report (h v) ≡ live_report v) w.key es same))

-- no event among these has a report
abbrev pub AreSilent : List Event → Type 0
AreSilent es = All (λ v. live_report v ≡ None) es

first_report-silent : (train : ℕ) (ms ys : List Event) → AreSilent ms → first_report train (ms ++ ys) ≡ first_report train ys
first_report-silent train [] ys h = refl
first_report-silent train (m ∷ ms) ys h =
    let P : Event → Type 0 = λ v. live_report v ≡ None in
    first_report-passed train m (ms ++ ys) (All-head P m ms h) ∙ first_report-silent train ms ys (All-tail P m ms h)

first_report-swap : (train : ℕ) (xs ms ns ys : List Event) → AreSilent ms → AreSilent ns → first_report train (xs ++ (ms ++ ys)) ≡ first_report train (xs ++ (ns ++ ys))
first_report-swap train [] ms ns ys h k = first_report-silent train ms ys h ∙ sym (first_report-silent train ns ys k)
first_report-swap train (x ∷ xs) ms ns ys h k = rw (first_report-swap train xs ms ns ys h k)

pub after_key-skip : (k : Key) (ms ys : List Event) → All (λ v. is_same v.key k ≡ false) ms → after_key k (ms ++ ys) ≡ after_key k ys
after_key-skip k [] ys h = refl
after_key-skip k (m ∷ ms) ys h = let P : Event → Type 0 = λ v. is_same v.key k ≡ false in rw (All-head P m ms h) (after_key-skip k ms ys (All-tail P m ms h))

report-swap : (train : ℕ) (k : Key) (xs ms ns ys : List Event) → AreSilent ms → AreSilent ns → All (λ v. is_same v.key k ≡ false) ms → All (λ v. is_same v.key k ≡ false) ns → first_report train (after_key k (xs ++ (ms ++ ys))) ≡ first_report train (after_key k (xs ++ (ns ++ ys)))
report-swap train k [] ms ns ys hm hn om on = rw (after_key-skip k ms ys om, after_key-skip k ns ys on)
report-swap train k (x ∷ xs) ms ns ys hm hn om on =
    let hit = first_report-swap train xs ms ns ys hm hn in let miss = report-swap train k xs ms ns ys hm hn om on in grind arith

-- the cap stays where events that are not reported stand in place of others, and the event is none of them
pub cap-swap : (xs ms ns ys : List Event) (w : Event) → AreSilent ms → AreSilent ns → All (λ v. is_same v.key w.key ≡ false) ms → All (λ v. is_same v.key w.key ≡ false) ns → cap (xs ++ (ms ++ ys)) w ≡ cap (xs ++ (ns ++ ys)) w
unfolding cap
cap-swap xs ms ns ys w hm hn om on = report-swap w.key.train w.key xs ms ns ys hm hn om on
