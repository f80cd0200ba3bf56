-- The calls and events of an extra train.
use Rattle.std.proofs.Common.{rules, ◌≡◌, not, ◌&&◌, nat_le, nat_lt, ℕ, ◌+◌, ◌-◌, ◌≤◌, List, [], ◌∷◌, ◌++◌, Option, Some, None, true, false, length, drop, get_or, refl, sym, ◌∙◌, ap, arith}
use Rattle.std.specs.List.{slice_get, slice_range}
use Rattle.std.specs.Option.{option_map_or, option_or}
use Rattle.std.proofs.lemmas.List.{drop_all, drop_more, get_or_default, length-drop, length-take-le}
use Rattle.std.proofs.lemmas.List.Folds.{drop_split}
use Rattle.mt_base.specs.declared.options.Opts.{Opts}
use Rattle.mt_base.specs.declared.new_calls.NewCall.{NewCall}
use Rattle.delay_model.specs.declared.messages.Message.TheVariants.{Extra}
use Rattle.delay_model.specs.declared.messages.Refusal.{Refusal}
use Rattle.delay_model.specs.declared.messages.Refusal.TheVariants.{Known, Unknown}
use Rattle.delay_model.specs.declared.network.Network.{Network}
use Rattle.delay_model.specs.declared.state.Train.{Train}
use Rattle.delay_model.specs.declared.state.State.{State}
use Rattle.delay_model.specs.Effect.{effect, begin_run, change_event, end_run, killed, new_call, new_calls, new_train}
use Rattle.delay_model.specs.Edges.{edges_along}
use Rattle.delay_model.specs.Events.{events_at, events_of, train_events}
use Rattle.delay_model.specs.Refusals.{against_rank, are_at_stops, first_against_rank, is_known, refusal, refused_if, shortage}
use Rattle.cancel_reroute.specs.Ranks.{rank_along, last_of}
use Rattle.cancel_reroute.proofs.RankLemmas.{along-parts}
use Rattle.edge_rules.proofs.Words.{events-append}
use Rattle.graph_edit.proofs.ValueLemmas.{none-after}

get-last : (ts : List Train) (t : Train) (n : ℕ) → n ≡ length ts → slice_get (ts ++ t ∷ []) n ≡ Some t
get-last [] t n e = rw e refl
get-last (u ∷ us) t n e = rw e (get-last us t (length us) refl)

-- the events of the new train
run-of-train : (st : State) (n day route : ℕ) (calls : List NewCall) → n ≡ length st.trains → train_events (effect st (Extra n day route calls)) n ≡ events_at n route (begin_run (end_run (new_calls 0 calls)))
unfolding effect
run-of-train st n day route calls e =
    ap (λ x. option_map_or (events_of n) x []) (get-last st.trains (new_train day route calls) n e)

-- the answer to an extra train with the next number, whose calls are at stops
pub refusal_of_extra : (nw : Network) (st : State) (n day route : ℕ) (calls : List NewCall) → n ≡ length st.trains → are_at_stops nw calls ≡ true → refusal nw st (Extra n day route calls) ≡ option_or (first_against_rank (edges_along nw.opts (events_at n route (begin_run (end_run (new_calls 0 calls)))))) (shortage st (Extra n day route calls))
unfolding refusal
refusal_of_extra nw st n day route calls e stops =
    let m = Extra n day route calls in
    let enough = option_or (shortage st m) None in
    let rest = option_or (against_rank nw st m) enough in
    let may : nat_le n (length st.trains) ≡ true = search rules in
    let new : nat_lt n (length st.trains) ≡ false = search rules in
    ap (λ b. option_or (refused_if (not b) Unknown) (option_or (refused_if (is_known st m) Known) rest)) (ap (λ b. b && are_at_stops nw calls) may ∙ stops)
    ∙ ap (λ b. option_or (refused_if b Known) rest) new
    ∙ ap (λ es. option_or (first_against_rank (edges_along nw.opts es)) enough) (run-of-train st n day route calls e)
    ∙ ap (option_or (first_against_rank (edges_along nw.opts (events_at n route (begin_run (end_run (new_calls 0 calls))))))) (none-after (shortage st m))

-- the last of new calls
end-last : (label place : ℕ) (between : List NewCall) (last : NewCall) → place ≡ label + length between → end_run (new_calls label (between ++ last ∷ [])) ≡ new_calls label between ++ change_event true (killed true) (new_call place last) ∷ []
end-last label place [] last e = let same : place ≡ label = omega arith in rw same refl
end-last label place (c ∷ []) last e =
    ap (λ calls. new_call label c ∷ calls) (end-last (label + 1) place [] last (omega arith))
end-last label place (c ∷ d ∷ ds) last e =
    ap (λ calls. new_call label c ∷ calls) (end-last (label + 1) place (d ∷ ds) last (omega arith))

-- the calls are the first, those between, and the last
ends : (calls : List NewCall) (d : NewCall) → 2 ≤ length calls → calls ≡ get_or calls 0 d ∷ (slice_range calls 1 (length calls - 1) ++ get_or calls (length calls - 1) d ∷ [])
ends calls d two =
    let at = length calls - 1 in
    drop_more calls 0 d (omega arith)
    ∙ ap (λ cs. get_or calls 0 d ∷ cs) (drop_split calls 1 at (omega arith))
    ∙ ap (λ cs. get_or calls 0 d ∷ (slice_range calls 1 at ++ cs)) (drop_more calls at d (omega arith))
    ∙ ap (λ cs. get_or calls 0 d ∷ (slice_range calls 1 at ++ get_or calls at d ∷ cs)) (drop_all (at + 1) calls (omega arith))

begin-more : (c : NewCall) (cs : List NewCall) (d : NewCall) → begin_run (end_run (new_calls 0 (c ∷ (cs ++ d ∷ [])))) ≡ change_event false (killed true) (new_call 0 c) ∷ end_run (new_calls 1 (cs ++ d ∷ []))
begin-more c [] d = refl
begin-more c (b ∷ bs) d = refl

-- the first edge against rank along a new train: the first call, those between, and the last
pub run_rank : (o : Opts) (n route : ℕ) (calls : List NewCall) (first last : NewCall) → 2 ≤ length calls → first ≡ get_or calls 0 first → last ≡ get_or calls (length calls - 1) last → let xs = events_at n route (change_event false (killed true) (new_call 0 first) ∷ []) in let ys = events_at n route (new_calls 1 (slice_range calls 1 (length calls - 1))) in first_against_rank (edges_along o (events_at n route (begin_run (end_run (new_calls 0 calls))))) ≡ option_or (rank_along o None xs) (option_or (rank_along o (last_of None xs) ys) (rank_along o (last_of (last_of None xs) ys) (events_at n route (change_event true (killed true) (new_call (length calls - 1) last) ∷ []))))
run_rank o n route calls first last two at_first at_last =
    let at = length calls - 1 in
    let between = slice_range calls 1 at in
    let head = change_event false (killed true) (new_call 0 first) in
    let tail = change_event true (killed true) (new_call at last) ∷ [] in
    let whole : calls ≡ first ∷ (between ++ last ∷ []) =
    ends calls last two
    ∙ ap (λ (c : NewCall). c ∷ (between ++ get_or calls at last ∷ [])) (get_or_default calls 0 last first (omega arith) ∙ sym at_first)
    ∙ ap (λ (c : NewCall). first ∷ (between ++ c ∷ [])) (sym at_last)
    in
    ap (λ cs. first_against_rank (edges_along o (events_at n route (begin_run (end_run (new_calls 0 cs)))))) whole
    ∙ ap (λ cs. first_against_rank (edges_along o (events_at n route cs))) (begin-more first between last)
    ∙ ap (λ cs. first_against_rank (edges_along o (events_at n route (head ∷ cs)))) (end-last 1 at between last (omega (arith, length-take-le (at - 1) (drop 1 calls) (omega (arith, length-drop 1 calls)))))
    ∙ ap (λ es. first_against_rank (edges_along o (events_at n route (head ∷ []) ++ es))) (events-append n route (new_calls 1 between) tail)
    ∙ along-parts o (events_at n route (head ∷ [])) (events_at n route (new_calls 1 between)) (events_at n route tail)
