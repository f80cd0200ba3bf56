-- Lists of events, each of which is a step.
use Rattle.std.proofs.Common.{fold, ◌≡◌, ◌≢◌, ℕ, ◌+◌, ◌≤◌, ◌<◌, ◌==◌, Bool, true, false, cond, List, [], ◌∷◌, ◌++◌, length, get_or, set, max, refl, ap, sym, subst, arith, length-append, All, get_or-set_other}
use Rattle.std.specs.List.{AllPairs}
use Rattle.std.proofs.lemmas.Bool.Decides.{nat_tests}
use Rattle.std.proofs.lemmas.Grind.{get_or-set_at}
use Rattle.std.proofs.lemmas.List.Elements.{All-nil, All-cons}
use Rattle.std.proofs.lemmas.List.Kept.{AllPairs-cons}
use Rattle.std.proofs.Math.Nat.{le-max_left, le-max_right}
use Rattle.snapshot_board.specs.Boards.{BoardState}
use Rattle.snapshot_board.specs.Machines.{counts_of, newcomer_counts, is_step, after_event}
use Rattle.snapshot_board.specs.Runs.{accepted, posts_in, looks_of, learns_from}
use Rattle.snapshot_board.specs.declared.event.Event.{Event}
use Rattle.snapshot_board.specs.declared.event.Event.TheVariants.{Post, Look, Tell, Learn}
use Rattle.snapshot_board.specs.declared.event.ViewerCounts.{ViewerCounts}

-- each event in turn is a step
abbrev pub IsRun : {M : Type 0} → BoardState M → List (Event M) → Type 0
IsRun s [] = Unit {0}
IsRun s (e ∷ es) = (is_step s e ≡ true) × IsRun (after_event s e) es

-- the state after these steps
abbrev pub after_all : {M : Type 0} → BoardState M → List (Event M) → BoardState M
after_all s es = fold after_event s es

run-choice : {M : Type 0} (s : BoardState M) (e : Event M) (es others : List (Event M)) (b : Bool) → is_step s e ≡ b
    → IsRun (after_event s e) es → IsRun s others → IsRun s (cond b (e ∷ es) others)
run-choice s e es others true is run other = (is, run)
run-choice s e es others false is run other = other

-- what is accepted is a run
pub accepted-run : {M : Type 0} (s : BoardState M) (es : List (Event M)) → IsRun s (accepted s es)
accepted-run s [] = tt
accepted-run s (e ∷ es) = run-choice s e (accepted (after_event s e) es) (accepted s es) (is_step s e) refl (accepted-run (after_event s e) es) (accepted-run s es)

pub run-front : {M : Type 0} (s : BoardState M) (xs ys : List (Event M)) → IsRun s (xs ++ ys) → IsRun s xs
run-front s [] ys run = tt
run-front s (e ∷ xs) ys run = (run.0, run-front (after_event s e) xs ys run.1)

pub run-back : {M : Type 0} (s : BoardState M) (xs ys : List (Event M)) → IsRun s (xs ++ ys) → IsRun (after_all s xs) ys
run-back s [] ys run = run
run-back s (e ∷ xs) ys run = run-back (after_event s e) xs ys run.1

-- one knows no less than the other
pub record KnowsMore (c d : ViewerCounts) : Type 0 where
  pub seen : c.seen ≤ d.seen
  pub least : c.least ≤ d.least

more-self : (c : ViewerCounts) → KnowsMore c c
more-self c = record { seen = omega arith; least = omega arith }

more-trans : (b c d : ViewerCounts) → KnowsMore b c → KnowsMore c d → KnowsMore b d
more-trans b c d p q = record { seen = omega arith; least = omega arith }

set-more : (viewers : List ViewerCounts) (w v : ℕ) (x : ViewerCounts) → w < length viewers → KnowsMore (get_or viewers w newcomer_counts) x
    → (b : Bool) → (w == v) ≡ b → KnowsMore (get_or viewers v newcomer_counts) (get_or (set viewers w x) v newcomer_counts)
set-more viewers w v x lt up true is =
    let e : w ≡ v = grind (arith, nat_tests) in
    let same : get_or (set viewers w x) v newcomer_counts ≡ x = get_or-set_at viewers w v x newcomer_counts (sym e) lt in
    rw same (subst (λ (k : ℕ). KnowsMore (get_or viewers k newcomer_counts) x) e up)
set-more viewers w v x lt up false is =
    let ne : v ≢ w = grind (arith, nat_tests) in
    rw (get_or-set_other viewers w v x newcomer_counts ne) (more-self (get_or viewers v newcomer_counts))

-- what a look that is a step keeps to
pub record KeepsTo {M : Type 0} (s : BoardState M) (v count : ℕ) : Type 0 where
  pub there : v < length s.viewers
  pub seen : (counts_of s v).seen ≤ count
  pub least : (counts_of s v).least ≤ count
  pub posted : count ≤ length s.posted

pub look-step : {M : Type 0} (s : BoardState M) (v count : ℕ) → is_step s (Look v count) ≡ true → KeepsTo s v count
look-step s v count is = grind (arith, nat_tests)

learn-step : {M : Type 0} (s : BoardState M) (v note : ℕ) → is_step s (Learn v note) ≡ true → v < length s.viewers
learn-step s v note is = grind (arith, nat_tests)

-- by a step a viewer knows no less
pub step-more : {M : Type 0} (s : BoardState M) (e : Event M) (v : ℕ) → is_step s e ≡ true → KnowsMore (counts_of s v) (counts_of (after_event s e) v)
step-more s (Post m) v is = more-self (counts_of s v)
step-more s (Look w count) v is =
    let k = look-step s w count is in
    set-more s.viewers w v _ k.there (record { seen = k.seen; least = omega arith }) (w == v) refl
step-more s Tell v is = more-self (counts_of s v)
step-more s (Learn w note) v is =
    let c = counts_of s w in
    set-more s.viewers w v _ (learn-step s w note is) (record { seen = omega arith; least = le-max_left c.least (get_or s.notes note 0) }) (w == v) refl

pub run-more : {M : Type 0} (s : BoardState M) (es : List (Event M)) (v : ℕ) → IsRun s es → KnowsMore (counts_of s v) (counts_of (after_all s es) v)
run-more s [] v run = more-self (counts_of s v)
run-more s (e ∷ es) v run =
    more-trans (counts_of s v) (counts_of (after_event s e) v) (counts_of (after_all (after_event s e) es) v) (step-more s e v run.0) (run-more (after_event s e) es v run.1)

-- the posts of a run stand in its state
pub posts-run : {M : Type 0} (s : BoardState M) (es : List (Event M)) → length (after_all s es).posted ≡ length s.posted + posts_in es
posts-run s [] = omega arith
posts-run s (Post m ∷ es) = omega (arith, posts-run (after_event s (Post m)) es, length-append s.posted (m ∷ []))
posts-run s (Look w count ∷ es) = posts-run (after_event s (Look w count)) es
posts-run s (Tell ∷ es) = posts-run (after_event s Tell) es
posts-run s (Learn w note ∷ es) = posts-run (after_event s (Learn w note)) es

-- a look by this viewer is not below what it saw, and later ones are not below it
look-choice : (v w low count : ℕ) (later : List ℕ) (b : Bool) → (w == v) ≡ b → (w ≡ v → low ≤ count) → All (λ n. low ≤ n) later
    → All (λ n. low ≤ n) (cond b (count ∷ later) later)
look-choice v w low count later true is at rest = All-cons (λ n. low ≤ n) count later (at (grind (arith, nat_tests))) rest
look-choice v w low count later false is at rest = rest

pub later-looks : {M : Type 0} (s : BoardState M) (es : List (Event M)) (v low : ℕ) → IsRun s es → low ≤ (counts_of s v).seen → All (λ n. low ≤ n) (looks_of v es)
later-looks s [] v low run le = All-nil (λ n. low ≤ n)
later-looks s (Post m ∷ es) v low run le = later-looks (after_event s (Post m)) es v low run.1 le
later-looks s (Look w count ∷ es) v low run le =
    let k = look-step s w count run.0 in
    let up = step-more s (Look w count) v run.0 in
    let rest = later-looks (after_event s (Look w count)) es v low run.1 (omega arith) in
    look-choice v w low count (looks_of v es) (w == v) refl (λ (e : w ≡ v). let at = subst (λ (u : ℕ). (counts_of s u).seen ≤ count) e k.seen in omega arith) rest
later-looks s (Tell ∷ es) v low run le = later-looks (after_event s Tell) es v low run.1 le
later-looks s (Learn w note ∷ es) v low run le =
    let up = step-more s (Learn w note) v run.0 in
    later-looks (after_event s (Learn w note)) es v low run.1 (omega arith)

rise-choice : (v w count : ℕ) (later : List ℕ) (b : Bool) → (w == v) ≡ b → (w ≡ v → All (λ n. count ≤ n) later) → AllPairs (λ m n. m ≤ n) later
    → AllPairs (λ m n. m ≤ n) (cond b (count ∷ later) later)
rise-choice v w count later true is at rest = AllPairs-cons (λ m n. m ≤ n) count later (at (grind (arith, nat_tests))) rest
rise-choice v w count later false is at rest = rest

-- the state after a look of this viewer has it seen so many
look-seen : {M : Type 0} (s : BoardState M) (w count : ℕ) → w < length s.viewers → (counts_of (after_event s (Look w count)) w).seen ≡ count
look-seen s w count lt =
    let c : ViewerCounts = record { seen = count; least = (counts_of s w).least } in
    ap (λ (k : ViewerCounts). k.seen) (get_or-set_at s.viewers w w c newcomer_counts refl lt)

-- the looks of one viewer do not fall
pub looks-rise : {M : Type 0} (s : BoardState M) (es : List (Event M)) (v : ℕ) → IsRun s es → AllPairs (λ m n. m ≤ n) (looks_of v es)
looks-rise s [] v run = λ i j d a b. absurd (omega arith)
looks-rise s (Post m ∷ es) v run = looks-rise (after_event s (Post m)) es v run.1
looks-rise s (Look w count ∷ es) v run =
    let k = look-step s w count run.0 in
    let t = after_event s (Look w count) in
    let at : (w ≡ v) → All (λ n. count ≤ n) (looks_of v es) =
    λ e. let seen = subst (λ (u : ℕ). (counts_of t u).seen ≡ count) e (look-seen s w count k.there) in later-looks t es v count run.1 (omega arith) in
    rise-choice v w count (looks_of v es) (w == v) refl at (looks-rise t es v run.1)
looks-rise s (Tell ∷ es) v run = looks-rise (after_event s Tell) es v run.1
looks-rise s (Learn w note ∷ es) v run = looks-rise (after_event s (Learn w note)) es v run.1

learn-choice : (v w high count : ℕ) (later : List ℕ) (b : Bool) → (w == v) ≡ b → (w ≡ v → count ≤ high) → All (λ n. n ≤ high) later
    → All (λ n. n ≤ high) (cond b (count ∷ later) later)
learn-choice v w high count later true is at rest = All-cons (λ n. n ≤ high) count later (at (grind (arith, nat_tests))) rest
learn-choice v w high count later false is at rest = rest

learn-least : {M : Type 0} (s : BoardState M) (w note : ℕ) → w < length s.viewers → get_or s.notes note 0 ≤ (counts_of (after_event s (Learn w note)) w).least
learn-least s w note lt =
    let n = get_or s.notes note 0 in let old = counts_of s w in
    let c : ViewerCounts = record { seen = old.seen; least = max old.least n } in
    let is : (counts_of (after_event s (Learn w note)) w).least ≡ max old.least n = ap (λ (k : ViewerCounts). k.least) (get_or-set_at s.viewers w w c newcomer_counts refl lt) in
    rw is (le-max_right old.least n)

-- what a viewer learns by a run is not above the least that it may look at then
pub learns-below : {M : Type 0} (s : BoardState M) (es : List (Event M)) (v : ℕ) → IsRun s es
    → All (λ n. n ≤ (counts_of (after_all s es) v).least) (learns_from v (length s.posted) s.notes es)
learns-below s [] v run = All-nil (λ n. n ≤ (counts_of s v).least)
learns-below s (Post m ∷ es) v run =
    let t = after_event s (Post m) in
    let n : length t.posted ≡ length s.posted + 1 = length-append s.posted (m ∷ []) in
    subst (λ (k : ℕ). All (λ n. n ≤ (counts_of (after_all t es) v).least) (learns_from v k s.notes es)) n (learns-below t es v run.1)
learns-below s (Look w count ∷ es) v run = learns-below (after_event s (Look w count)) es v run.1
learns-below s (Tell ∷ es) v run = learns-below (after_event s Tell) es v run.1
learns-below s (Learn w note ∷ es) v run =
    let t = after_event s (Learn w note) in
    let more = run-more t es v run.1 in
    let at : (w ≡ v) → get_or s.notes note 0 ≤ (counts_of (after_all t es) v).least =
    λ e. let here = subst (λ (u : ℕ). get_or s.notes note 0 ≤ (counts_of t u).least) e (learn-least s w note (learn-step s w note run.0)) in omega arith in
    learn-choice v w (counts_of (after_all t es) v).least (get_or s.notes note 0) (learns_from v (length s.posted) s.notes es) (w == v) refl at (learns-below t es v run.1)
