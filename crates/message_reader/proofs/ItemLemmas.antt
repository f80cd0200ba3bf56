-- Reading the rest of a list of JSON values, and looking up the rest of a list of rides, as loops do.
use Rattle.std.proofs.Common.{◌≡◌, ℕ, ◌+◌, ◌<◌, ◌≤◌, List, [], ◌∷◌, ◌++◌, length, drop, get_or, suc, Option, None, Some, Result, Ok, Err, refl, sym, ap, ◌∙◌, append_assoc, add-one}
use Rattle.std.proofs.Math.Seq.{drop-cons}
use Rattle.std.proofs.lemmas.List.{append-nil, drop_all}
use Rattle.std.specs.Prelude.{option_and_then}
use Rattle.serde_json.specs.Data.{Data, Items}
use Rattle.serde_json.specs.View.{view, items_view}
use Rattle.serde_json.specs.declared.value.Value.{Value}
use Rattle.mt_base.specs.declared.certificates.CertRide.{CertRide}
use Rattle.schedule_build.specs.Directory.{Names}
use Rattle.message_reader.specs.declared.bad_line.BadLine.{BadLine}
use Rattle.message_reader.specs.declared.claims.ClaimRide.{ClaimRide}
use Rattle.message_reader.specs.Chain.{◌>>=◌}
use Rattle.message_reader.specs.Claims.{ride_resolved, rides_resolved}
use Rattle.message_reader.specs.Errors.{IsCauseOf}
use Rattle.message_reader.specs.Items.{items_shape, items_read}
use Rattle.message_reader.proofs.Rest.{rest_from, cause_of_step, with_front, regroup}

-- ---- the shape of each item

pub shapes_go_on : {X : Type 0} (read : Data → Result X BadLine) (vs : List Value) (i : ℕ) (v : Value) (x : X) (total : Result (Unit {0}) BadLine)
    → i < length vs → v ≡ get_or vs i v → Ok x ≡ read (view v)
    → items_shape read (items_view (drop i vs)) ≡ total → items_shape read (items_view (drop (i + 1) vs)) ≡ total
unfolding items_shape
shapes_go_on {X = X} read vs i v x total lt is good so_far =
    ap (λ (r : Result X BadLine). r >>= λ _. items_shape read (items_view (drop (i + 1) vs))) good ∙ sym (ap (items_shape read) (rest_from vs i v lt is)) ∙ so_far

pub shapes_end : {X : Type 0} (read : Data → Result X BadLine) (bad : BadLine) (vs : List Value) (i : ℕ) (v : Value) (total : Result (Unit {0}) BadLine)
    → i < length vs → v ≡ get_or vs i v → Err bad ≡ read (view v)
    → items_shape read (items_view (drop i vs)) ≡ total → Err bad ≡ total
unfolding items_shape
shapes_end {X = X} read bad vs i v total lt is fails so_far =
    ap (λ (r : Result X BadLine). r >>= λ _. items_shape read (items_view (drop (i + 1) vs))) fails ∙ sym (ap (items_shape read) (rest_from vs i v lt is)) ∙ so_far

pub shapes_are_done : {X : Type 0} (read : Data → Result X BadLine) (vs : List Value) (i : ℕ) (total : Result (Unit {0}) BadLine)
    → length vs ≤ i → items_shape read (items_view (drop i vs)) ≡ total → Ok tt ≡ total
unfolding items_shape
shapes_are_done read vs i total le so_far = sym (ap (λ (ws : List Value). items_shape read (items_view ws)) (drop_all i vs le)) ∙ so_far

-- ---- what each item says

pub items_go_on : {X : Type 0} (read : Data → Result X BadLine) (front : List X) (vs : List Value) (i : ℕ) (v : Value) (x : X) (total : Result (List X) BadLine)
    → i < length vs → v ≡ get_or vs i v → read (view v) ≡ Ok x
    → with_front front (items_read read (items_view (drop i vs))) ≡ total → with_front (front ++ x ∷ []) (items_read read (items_view (drop (i + 1) vs))) ≡ total
unfolding items_read
items_go_on {X = X} read front vs i v x total lt is good so_far =
    let rest = items_read read (items_view (drop (i + 1) vs)) in
    let one : with_front front (items_read read (items_view (drop i vs))) ≡ with_front front (rest >>= λ xs. Ok (x ∷ xs)) =
    ap (λ (ds : Items). with_front front (items_read read ds)) (rest_from vs i v lt is)
    ∙ ap (λ (r : Result X BadLine). with_front front (r >>= λ y. rest >>= λ xs. Ok (y ∷ xs))) good in
    sym (one ∙ regroup front x rest) ∙ so_far

pub items_end : {X : Type 0} (read : Data → Result X BadLine) (cause : Option BadLine) (front : List X) (vs : List Value) (i : ℕ) (v : Value) (total : Result (List X) BadLine)
    → i < length vs → v ≡ get_or vs i v
    → IsCauseOf cause (read (view v)) → with_front front (items_read read (items_view (drop i vs))) ≡ total → IsCauseOf cause total
unfolding items_read
items_end {X = X} read cause front vs i v total lt is fails so_far =
    let rest = items_read read (items_view (drop (i + 1) vs)) in
    let f : X → Result (List X) BadLine = λ y. rest >>= λ xs. Ok (y ∷ xs) in
    let first : IsCauseOf cause (read (view v) >>= f) = cause_of_step cause (read (view v)) f (read (view v) >>= f) fails refl in
    cause_of_step cause (read (view v) >>= f) (λ xs. Ok (front ++ xs)) total first
    (sym (ap (λ (ds : Items). with_front front (items_read read ds)) (rest_from vs i v lt is)) ∙ so_far)

pub items_are_done : {X : Type 0} (read : Data → Result X BadLine) (front : List X) (vs : List Value) (i : ℕ) (total : Result (List X) BadLine)
    → length vs ≤ i → with_front front (items_read read (items_view (drop i vs))) ≡ total → total ≡ Ok front
unfolding items_read
items_are_done {X = X} read front vs i total le so_far =
    sym so_far ∙ ap (λ (ws : List Value). with_front front (items_read read (items_view ws))) (drop_all i vs le)
    ∙ ap (λ (all : List X). Ok all) (append-nil front)

-- ---- the rides by number

-- the rides that were found before those of the rest
abbrev pub found_before : List CertRide → Option (List CertRide) → Option (List CertRide)
found_before front found = option_and_then (λ rides. Some (front ++ rides)) found

found_regroup : (front : List CertRide) (ride : CertRide) (found : Option (List CertRide))
    → found_before front (option_and_then (λ rides. Some (ride ∷ rides)) found) ≡ found_before (front ++ ride ∷ []) found
found_regroup front ride (Some rides) = ap (λ (all : List CertRide). Some all) (simp append_assoc)
found_regroup front ride None = refl

-- the rest is its first ride and the rest after it
rides_from : (rs : List ClaimRide) (i : ℕ) (r : ClaimRide) → i < length rs → r ≡ get_or rs i r → drop i rs ≡ r ∷ drop (i + 1) rs
rides_from rs i r lt is = rw add-one (drop-cons rs i r lt ∙ ap (λ (d : ClaimRide). d ∷ drop (suc i) rs) (sym is))

pub rides_go_on : (names : Names) (front : List CertRide) (rs : List ClaimRide) (i : ℕ) (r : ClaimRide) (ride : CertRide) (total : Option (List CertRide))
    → i < length rs → r ≡ get_or rs i r → Some ride ≡ ride_resolved names r
    → found_before front (rides_resolved names (drop i rs)) ≡ total → found_before (front ++ ride ∷ []) (rides_resolved names (drop (i + 1) rs)) ≡ total
unfolding rides_resolved
rides_go_on names front rs i r ride total lt is good so_far =
    let rest = rides_resolved names (drop (i + 1) rs) in
    let one : found_before front (rides_resolved names (drop i rs)) ≡ found_before front (option_and_then (λ rides. Some (ride ∷ rides)) rest) =
    ap (λ (ds : List ClaimRide). found_before front (rides_resolved names ds)) (rides_from rs i r lt is)
    ∙ ap (λ (o : Option CertRide). found_before front (option_and_then (λ x. option_and_then (λ rides. Some (x ∷ rides)) rest) o)) (sym good) in
    sym (one ∙ found_regroup front ride rest) ∙ so_far

pub rides_end : (names : Names) (front : List CertRide) (rs : List ClaimRide) (i : ℕ) (r : ClaimRide) (total : Option (List CertRide))
    → i < length rs → r ≡ get_or rs i r → None ≡ ride_resolved names r
    → found_before front (rides_resolved names (drop i rs)) ≡ total → None ≡ total
unfolding rides_resolved
rides_end names front rs i r total lt is fails so_far =
    let rest = rides_resolved names (drop (i + 1) rs) in
    ap (λ (o : Option CertRide). found_before front (option_and_then (λ x. option_and_then (λ rides. Some (x ∷ rides)) rest) o)) fails
    ∙ sym (ap (λ (ds : List ClaimRide). found_before front (rides_resolved names ds)) (rides_from rs i r lt is)) ∙ so_far

pub rides_are_done : (names : Names) (front : List CertRide) (rs : List ClaimRide) (i : ℕ) (total : Option (List CertRide))
    → length rs ≤ i → found_before front (rides_resolved names (drop i rs)) ≡ total → Some front ≡ total
unfolding rides_resolved
rides_are_done names front rs i total le so_far =
    sym (ap (λ (ds : List ClaimRide). found_before front (rides_resolved names ds)) (drop_all i rs le)
    ∙ ap (λ (all : List CertRide). Some all) (append-nil front)) ∙ so_far
