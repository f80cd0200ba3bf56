-- Reading the rest of a list of calls, as a loop does.
use Rattle.std.proofs.Common.{◌≡◌, ℕ, suc, ◌+◌, ◌<◌, ◌≤◌, List, [], ◌∷◌, ◌++◌, length, drop, get_or, Option, None, Some, Result, Ok, Err, refl, sym, ap, ◌∙◌, append_assoc, add-one}
use Rattle.std.proofs.Math.Seq.{drop-cons}
use Rattle.std.proofs.lemmas.List.{append-nil, drop_all}
use Rattle.serde_json.specs.Data.{Items, item}
use Rattle.serde_json.specs.View.{view, items_view}
use Rattle.serde_json.specs.declared.value.Value.{Value}
use Rattle.mt_base.specs.declared.new_calls.NewCall.{NewCall}
use Rattle.delay_model.specs.declared.messages.Refusal.{Refusal}
use Rattle.schedule_build.specs.Directory.{Names}
use Rattle.message_reader.specs.declared.bad_line.BadLine.{BadLine}
use Rattle.message_reader.specs.declared.wire.WireCall.{WireCall}
use Rattle.message_reader.specs.Chain.{◌>>=◌}
use Rattle.message_reader.specs.Errors.{IsCauseOf}
use Rattle.message_reader.specs.Messages.{CallTexts, count, call_texts, call_of, calls_shape, calls_of}
use Rattle.message_reader.specs.Resolved.{new_call, new_calls}

-- a list of values has as many items
pub count-items : (vs : List Value) → length vs ≡ count (items_view vs)
unfolding count
count-items [] = refl
count-items (v ∷ vs) = ap suc (count-items vs)

-- the rest is its first value and the rest after it
pub rest_from : (vs : List Value) (i : ℕ) (v : Value) → i < length vs → v ≡ get_or vs i v → items_view (drop i vs) ≡ item (view v) (items_view (drop (i + 1) vs))
rest_from vs i v lt is = rw add-one (ap items_view (drop-cons vs i v lt) ∙ ap (λ (w : Value). item (view w) (items_view (drop (suc i) vs))) (sym is))

-- the cause of a step that fails is the cause of the whole
pub cause_of_step : {A B C : Type 0} (cause : Option C) (r : Result A C) (f : A → Result B C) (total : Result B C) → IsCauseOf cause r → (r >>= f) ≡ total → IsCauseOf cause total
cause_of_step None r f total h whole = tt
cause_of_step (Some cause) r f total h whole = sym whole ∙ ap (λ x. x >>= f) h

-- ---- the shape of each call

pub shape_goes_on : (vs : List Value) (i : ℕ) (v : Value) (texts : CallTexts) (total : Result (Unit {0}) BadLine) → i < length vs → v ≡ get_or vs i v → Ok texts ≡ call_texts (view v)
    → calls_shape (items_view (drop i vs)) ≡ total → calls_shape (items_view (drop (i + 1) vs)) ≡ total
unfolding calls_shape
shape_goes_on vs i v texts total lt is good so_far =
    ap (λ x. x >>= λ _. calls_shape (items_view (drop (i + 1) vs))) good ∙ sym (ap calls_shape (rest_from vs i v lt is)) ∙ so_far

pub shape_ends : (bad : BadLine) (vs : List Value) (i : ℕ) (v : Value) (total : Result (Unit {0}) BadLine) → i < length vs → v ≡ get_or vs i v → Err bad ≡ call_texts (view v)
    → calls_shape (items_view (drop i vs)) ≡ total → Err bad ≡ total
unfolding calls_shape
shape_ends bad vs i v total lt is fails so_far =
    ap (λ x. x >>= λ _. calls_shape (items_view (drop (i + 1) vs))) fails ∙ sym (ap calls_shape (rest_from vs i v lt is)) ∙ so_far

pub shape_is_done : (vs : List Value) (i : ℕ) (total : Result (Unit {0}) BadLine) → length vs ≤ i → calls_shape (items_view (drop i vs)) ≡ total → Ok tt ≡ total
unfolding calls_shape
shape_is_done vs i total le so_far = sym (ap (λ (ws : List Value). calls_shape (items_view ws)) (drop_all i vs le)) ∙ so_far

-- ---- the calls with their times

-- the calls that were read before those of the rest
abbrev pub with_front : {X E : Type 0} → List X → Result (List X) E → Result (List X) E
with_front front read = read >>= λ calls. Ok (front ++ calls)

pub regroup : {X E : Type 0} (front : List X) (call : X) (read : Result (List X) E) → with_front front (read >>= λ calls. Ok (call ∷ calls)) ≡ with_front (front ++ call ∷ []) read
regroup {X = X} front call (Ok calls) = ap (λ (all : List X). Ok all) (simp append_assoc)
regroup front call (Err e) = refl

pub calls_go_on : (front : List WireCall) (vs : List Value) (i : ℕ) (v : Value) (call : WireCall) (total : Result (List WireCall) BadLine)
    → i < length vs → v ≡ get_or vs i v → call_of (view v) ≡ Ok call
    → with_front front (calls_of (items_view (drop i vs))) ≡ total → with_front (front ++ call ∷ []) (calls_of (items_view (drop (i + 1) vs))) ≡ total
unfolding calls_of
calls_go_on front vs i v call total lt is good so_far =
    let rest = calls_of (items_view (drop (i + 1) vs)) in
    let one : with_front front (calls_of (items_view (drop i vs))) ≡ with_front front (rest >>= λ calls. Ok (call ∷ calls)) =
    ap (λ (ds : Items). with_front front (calls_of ds)) (rest_from vs i v lt is) ∙ ap (λ (x : Result WireCall BadLine). with_front front (x >>= λ c. rest >>= λ calls. Ok (c ∷ calls))) good in
    sym (one ∙ regroup front call rest) ∙ so_far

pub calls_end : (cause : Option BadLine) (front : List WireCall) (vs : List Value) (i : ℕ) (v : Value) (total : Result (List WireCall) BadLine) → i < length vs → v ≡ get_or vs i v
    → IsCauseOf cause (call_of (view v)) → with_front front (calls_of (items_view (drop i vs))) ≡ total → IsCauseOf cause total
unfolding calls_of
calls_end cause front vs i v total lt is fails so_far =
    let rest = calls_of (items_view (drop (i + 1) vs)) in
    let f : WireCall → Result (List WireCall) BadLine = λ c. rest >>= λ calls. Ok (c ∷ calls) in
    let first : IsCauseOf cause (call_of (view v) >>= f) = cause_of_step cause (call_of (view v)) f (call_of (view v) >>= f) fails refl in
    cause_of_step cause (call_of (view v) >>= f) (λ calls. Ok (front ++ calls)) total first (sym (ap (λ (ds : Items). with_front front (calls_of ds)) (rest_from vs i v lt is)) ∙ so_far)

pub calls_are_done : (front : List WireCall) (vs : List Value) (i : ℕ) (total : Result (List WireCall) BadLine)
    → length vs ≤ i → with_front front (calls_of (items_view (drop i vs))) ≡ total → total ≡ Ok front
unfolding calls_of
calls_are_done front vs i total le so_far =
    sym so_far ∙ ap (λ (ws : List Value). with_front front (calls_of (items_view ws))) (drop_all i vs le) ∙ ap (λ (all : List WireCall). Ok all) (append-nil front)

-- ---- the calls by number

-- the rest is its first call and the rest after it
pub calls_from : (cs : List WireCall) (i : ℕ) (c : WireCall) → i < length cs → c ≡ get_or cs i c → drop i cs ≡ c ∷ drop (i + 1) cs
calls_from cs i c lt is = rw add-one (drop-cons cs i c lt ∙ ap (λ (d : WireCall). d ∷ drop (suc i) cs) (sym is))

pub new_calls_go_on : (names : Names) (day : ℕ) (front : List NewCall) (cs : List WireCall) (i : ℕ) (c : WireCall) (call : NewCall) (total : Result (List NewCall) Refusal)
    → i < length cs → c ≡ get_or cs i c → Ok call ≡ new_call names day c
    → with_front front (new_calls names day (drop i cs)) ≡ total → with_front (front ++ call ∷ []) (new_calls names day (drop (i + 1) cs)) ≡ total
unfolding new_calls
new_calls_go_on names day front cs i c call total lt is good so_far =
    let rest = new_calls names day (drop (i + 1) cs) in
    let one : with_front front (new_calls names day (drop i cs)) ≡ with_front front (rest >>= λ calls. Ok (call ∷ calls)) =
    ap (λ (ds : List WireCall). with_front front (new_calls names day ds)) (calls_from cs i c lt is)
    ∙ ap (λ (x : Result NewCall Refusal). with_front front (x >>= λ n. rest >>= λ calls. Ok (n ∷ calls))) (sym good) in
    sym (one ∙ regroup front call rest) ∙ so_far

pub new_calls_end : (refusal : Refusal) (names : Names) (day : ℕ) (front : List NewCall) (cs : List WireCall) (i : ℕ) (c : WireCall) (total : Result (List NewCall) Refusal)
    → i < length cs → c ≡ get_or cs i c → Err refusal ≡ new_call names day c → with_front front (new_calls names day (drop i cs)) ≡ total → total ≡ Err refusal
unfolding new_calls
new_calls_end refusal names day front cs i c total lt is fails so_far =
    let rest = new_calls names day (drop (i + 1) cs) in
    sym so_far
    ∙ ap (λ (ds : List WireCall). with_front front (new_calls names day ds)) (calls_from cs i c lt is)
    ∙ ap (λ (x : Result NewCall Refusal). with_front front (x >>= λ n. rest >>= λ calls. Ok (n ∷ calls))) (sym fails)

pub new_calls_are_done : (names : Names) (day : ℕ) (front : List NewCall) (cs : List WireCall) (i : ℕ) (total : Result (List NewCall) Refusal)
    → length cs ≤ i → with_front front (new_calls names day (drop i cs)) ≡ total → total ≡ Ok front
unfolding new_calls
new_calls_are_done names day front cs i total le so_far =
    sym so_far ∙ ap (λ (ds : List WireCall). with_front front (new_calls names day ds)) (drop_all i cs le) ∙ ap (λ (all : List NewCall). Ok all) (append-nil front)
