-- The timetable after the first of the posted messages, and what the lines of a window lead to.
use Rattle.query_crew.proofs.Words.{◌≡◌, ◌-◌, ℕ, zero, suc, ◌+◌, List, [], ◌∷◌, ◌++◌, length, take, fold, Option, Some, None, Result, Ok, Err, refl, sym, ◌∙◌, ap, subst, arith, append_assoc, append-nil, fold-append, same_Some, filter_map, Message, Network, State, after_messages, effect, Reply, said_by, messages_of, IsReplyToQuery, ServiceState, service_after, BadLine, AskedQuery, Flush, message_in, Line, Names, TimetableState, taken, stepped, WindowLine, timetable_after, IsAnswerAt, after_shown, after_lines, message_shown, publisher_reply, publisher_replies, window_line, window_lines}
use Rattle.std.proofs.Math.Seq.{take-append-add}
use Rattle.std.specs.List.{slice_get}
use Rattle.delay_model.specs.After.{AreAccepted}
use Rattle.information_service.specs.ServiceState.{after_said}
use Rattle.information_service.proofs.OneMore.{line-after}
use Rattle.message_reader.specs.declared.wire.Line.{Line as Spoken}
use Rattle.message_reader.specs.declared.wire.Line.TheVariants.{Message as Says, Query as Asks}
use Rattle.query_crew.proofs.Taking.{same-timetable}

-- ---- what the lines of a window lead to

shown-said : (s : ServiceState) (ns : Names) (said : Result Spoken BadLine) → after_shown s (window_line ns said) ≡ after_said s said
shown-said s ns (Ok (Says w)) = refl
shown-said s ns (Ok (Asks q)) = refl
shown-said s ns (Ok Flush) = refl
shown-said s ns (Err b) = refl

-- the state after the lines of a window is that after all lines of the input up to them
pub lines-lead : (nw : Network) (names : Names) (st : State) (ns : Names) (before window : List Line)
    → after_lines (service_after nw names st before) (window_lines ns window) ≡ service_after nw names st (before ++ window)
lines-lead nw names st ns before [] = ap (service_after nw names st) (sym (append-nil before))
lines-lead nw names st ns before (x ∷ xs) =
    ap (λ (s : ServiceState). after_lines s (window_lines ns xs)) (shown-said (service_after nw names st before) ns (said_by x) ∙ line-after nw names st before x)
    ∙ lines-lead nw names st ns (before ++ x ∷ []) xs
    ∙ ap (service_after nw names st) (append_assoc before (x ∷ []) xs)

message-same : (ns : Names) (said : Result Spoken BadLine) → message_shown (window_line ns said) ≡ message_in said
message-same ns (Ok (Says w)) = refl
message-same ns (Ok (Asks q)) = refl
message-same ns (Ok Flush) = refl
message-same ns (Err b) = refl

pub messages-same : (ns : Names) (window : List Line) → filter_map message_shown (window_lines ns window) ≡ messages_of window
messages-same ns [] = refl
messages-same ns (x ∷ xs) = rw (message-same ns (said_by x), messages-same ns xs) refl

-- what is replied at once to a line of these
pub reply-at : (s : ServiceState) (first place : ℕ) (lines : List WindowLine) (x : WindowLine) → slice_get lines place ≡ Some x
    → slice_get (publisher_replies s first lines) place ≡ Some (publisher_reply (after_lines s (take place lines)) (first + (place + 1)) x)
reply-at s first place [] x at = absurd (cc)
reply-at s first zero (y ∷ ys) x at = ap (λ (z : WindowLine). Some (publisher_reply s (first + 1) z)) (same_Some y x at)
reply-at s first (suc place) (y ∷ ys) x at =
    let number : first + 1 + (place + 1) ≡ first + (suc place + 1) = omega arith in
    reply-at (after_shown s y) (first + 1) place ys x at ∙ ap (λ (n : ℕ). Some (publisher_reply (after_lines s (take (suc place) (y ∷ ys))) n x)) number

-- ---- the timetable after the first messages

pub after-append : (st : State) (xs ys : List Message) → after_messages st (xs ++ ys) ≡ after_messages (after_messages st xs) ys
after-append st [] ys = refl
after-append st (m ∷ ms) ys = after-append (effect st m) ms ys

accepted-take : (nw : Network) (st : State) (ms : List Message) (k : ℕ) → AreAccepted nw st ms → AreAccepted nw st (take k ms)
accepted-take nw st ms zero h = tt
accepted-take nw st [] (suc k) h = tt
accepted-take nw st (m ∷ ms) (suc k) h = (h.0, accepted-take nw (effect st m) ms k h.1)

-- accepted messages leave the network, and have their effects
takes-them : (t : TimetableState) (ms : List Message) → AreAccepted t.network t.state ms → ((fold taken t ms).network ≡ t.network) × ((fold taken t ms).state ≡ after_messages t.state ms)
takes-them t [] h = (refl, refl)
takes-them t (m ∷ ms) h =
    let one : taken t m ≡ stepped t m = rw h.0 refl in
    subst (λ (u : TimetableState). ((fold taken u ms).network ≡ t.network) × ((fold taken u ms).state ≡ after_messages t.state (m ∷ ms))) (sym one) (takes-them (stepped t m) ms h.1)

timetable-on : (o : Option TimetableState) (old ms : List Message) (t : TimetableState) → timetable_after o old ≡ Some t → timetable_after o (old ++ ms) ≡ Some (fold taken t ms)
timetable-on None old ms t h = absurd (cc)
timetable-on (Some opening) old ms t h =
    ap (λ (r : TimetableState). Some r) (fold-append taken opening old ms ∙ ap (λ (r : TimetableState). fold taken r ms) (same-timetable _ t h))

-- an answer over the posted messages is one in the state after as many accepted messages: those
-- before the window, in place of those that were posted before it, and then those of the window
pub answer-is : (o : Option TimetableState) (old ms acc : List Message) (t : TimetableState) (nw : Network)
    (st : State) (number : ℕ) (asked : AskedQuery) (r : Reply) → timetable_after o old ≡ Some t → nw ≡ t.network → after_messages st acc ≡ t.state
    → length acc ≡ length old → AreAccepted nw (after_messages st acc) ms → (a : IsAnswerAt o (old ++ ms) (length old) number asked r)
    → IsReplyToQuery nw (after_messages st (take a.count (acc ++ ms))) a.count number asked.day asked.query r
answer-is o old ms acc t nw st number asked r before is_nw is_st same accepts a =
    let k = a.count - length old in
    let here : a.count ≡ length old + k = omega (arith, a.lower) in
    let there : a.count ≡ length acc + k = omega (arith, a.lower, same) in
    let posted : take a.count (old ++ ms) ≡ old ++ take k ms = ap (λ (n : ℕ). take n (old ++ ms)) here ∙ take-append-add old ms k in
    let all : take a.count (acc ++ ms) ≡ acc ++ take k ms = ap (λ (n : ℕ). take n (acc ++ ms)) there ∙ take-append-add acc ms k in
    let shown : a.shown ≡ fold taken t (take k ms) =
    same-timetable a.shown (fold taken t (take k ms)) (sym a.after ∙ ap (timetable_after o) posted ∙ timetable-on o old (take k ms) t before) in
    let fits : AreAccepted t.network t.state (take k ms) = subst (λ (n : Network). AreAccepted n t.state (take k ms)) is_nw
    (subst (λ (s : State). AreAccepted nw s (take k ms)) is_st (accepted-take nw (after_messages st acc) ms k accepts)) in
    let ends = takes-them t (take k ms) fits in
    let network : a.shown.network ≡ nw = ap (λ (u : TimetableState). u.network) shown ∙ ends.0 ∙ sym is_nw in
    let state : a.shown.state ≡ after_messages st (take a.count (acc ++ ms)) =
    ap (λ (u : TimetableState). u.state) shown ∙ ends.1 ∙ ap (λ (s : State). after_messages s (take k ms)) (sym is_st) ∙ sym (after-append st acc (take k ms)) ∙ ap (after_messages st) (sym all) in
    subst (λ (n : Network). IsReplyToQuery n (after_messages st (take a.count (acc ++ ms))) a.count number asked.day asked.query r) network
    (subst (λ (s : State). IsReplyToQuery a.shown.network s a.count number asked.day asked.query r) state a.answers)
