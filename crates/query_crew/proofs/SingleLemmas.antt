-- Windows of one line each.
use Rattle.query_crew.proofs.Words.{◌≡◌, ℕ, zero, suc, ◌+◌, List, [], ◌∷◌, ◌++◌, length, Some, Result, Ok, Err, refl, sym, ◌∙◌, ap, subst, arith, take, take-length, append-nil, same_Some, slice_get_within, filter_map-append, Message, Network, State, after_messages, accepted, Reply, text_of_reply, said_by, messages_of, by_names, accepted_of, names_after, IsReply, IsReplyTo, IsReplyToResolved, service_after, BadLine, AskedQuery, Flush, WireQuery, message_in, query_resolved, Line, Names, IsQueryReply, IsReplyAt, AreWindowReplies, AreRepliesFrom, text_of_replies, text_from, AreServed}
use Rattle.std.proofs.Math.Logic.{◌↔◌}
use Rattle.std.specs.List.{slice_get}
use Rattle.delay_model.specs.Windows.{single_windows}
use Rattle.information_service.specs.Output.{AreReplies}
use Rattle.message_reader.specs.declared.wire.Line.{Line as Spoken}
use Rattle.message_reader.specs.declared.wire.Line.TheVariants.{Message as Says, Query as Asks}
use Rattle.query_crew.proofs.KnownNames.{asked-by-feed, reply-text}
use Rattle.query_crew.proofs.InOrder.{window-in-order}
use Rattle.query_crew.proofs.ServedLemmas.{served-by}

-- ---- one line

-- a query is no message, so the same messages are accepted up to it and behind it
none-more : (nw : Network) (names : Names) (st : State) (before : List Line) (x : Line) (q : WireQuery)
    → said_by x ≡ Ok (Asks q) → accepted_of nw names st (before ++ x ∷ []) ≡ accepted_of nw names st before
none-more nw names st before x q e =
    let none : messages_of (x ∷ []) ≡ [] = rw e refl in
    ap (accepted nw by_names st names) (filter_map-append (λ (y : Line). message_in (said_by y)) before (x ∷ []) ∙ rw none (append-nil (messages_of before)))

-- a reply to a line in the state after those before it
abbrev IsReplyBehind : Network → Names → State → List Line → Result Spoken BadLine → Reply → Type 0
IsReplyBehind nw names st before said reply =
    let t = service_after nw names st before in IsReply t.network t.names t.state t.count (length before + 1) said reply

-- after the first so many of these messages
abbrev IsReplyAfter : Network → State → ℕ → List Message → ℕ → WireQuery → Names → Reply → Type 0
IsReplyAfter nw st count ms number q names reply = IsReplyToResolved nw (after_messages st (take count ms)) count number (query_resolved names q) reply

query-back : (nw : Network) (names : Names) (st : State) (before : List Line) (x : Line) (q : WireQuery) (reply : Reply)
    → said_by x ≡ Ok (Asks q) → IsQueryReply nw names st before (x ∷ []) (length before + 1) q reply → IsReplyBehind nw names st before (Ok (Asks q)) reply
query-back nw names st before x q reply e h =
    let ms = accepted_of nw names st before in
    let same = none-more nw names st before x q e in
    let all : h.count ≡ length ms = omega (arith, h.lower, h.upper, ap length same) in
    let here : IsReplyAfter nw st (length ms) ms (length before + 1) q names reply =
    subst (λ (n : ℕ). IsReplyAfter nw st n ms (length before + 1) q names reply) all
    (subst (λ (l : List Message). IsReplyAfter nw st h.count l (length before + 1) q names reply) same h.answers) in
    subst (λ (asked : Result AskedQuery BadLine). IsReplyToResolved nw (after_messages st ms) (length ms) (length before + 1) asked reply) (sym (asked-by-feed nw names st before q))
    (subst (λ (l : List Message). IsReplyToResolved nw (after_messages st l) (length ms) (length before + 1) (query_resolved names q) reply) (take-length ms) here)

said-back : (nw : Network) (names : Names) (st : State) (before : List Line) (x : Line) (said : Result Spoken BadLine) (reply : Reply)
    → said_by x ≡ said → IsReplyAt nw names st before (x ∷ []) 0 said reply → IsReplyBehind nw names st before said reply
said-back nw names st before x (Ok (Asks q)) reply e is = query-back nw names st before x q reply e is
said-back nw names st before x (Ok (Says w)) reply e is = subst (λ (b : List Line). let t = service_after nw names st b in
    IsReply t.network t.names t.state t.count (length before + 1) (Ok (Says w)) reply) (append-nil before) is
said-back nw names st before x (Ok Flush) reply e is = subst (λ (b : List Line). let t = service_after nw names st b in
    IsReply t.network t.names t.state t.count (length before + 1) (Ok Flush) reply) (append-nil before) is
said-back nw names st before x (Err b) reply e is = is

-- ---- a window of one line

alone-in-order : (nw : Network) (names : Names) (st : State) (before : List Line) (x : Line) (reply : Reply) → IsReplyTo (service_after nw names st before) (length before + 1) x reply
    → (place : ℕ) (y : Line) (r : Reply) → slice_get (x ∷ []) place ≡ Some y
    → slice_get (reply ∷ []) place ≡ Some r → IsReplyTo (service_after nw names st (before ++ take place (x ∷ []))) (length before + (place + 1)) y r
alone-in-order nw names st before x reply is zero y r at_y at_r =
    subst (λ (z : Line). IsReplyTo (service_after nw names st (before ++ [])) (length before + 1) z r) (same_Some x y at_y)
    (subst (IsReplyTo (service_after nw names st (before ++ [])) (length before + 1) x) (same_Some reply r at_r)
    (subst (λ (l : List Line). IsReplyTo (service_after nw names st l) (length before + 1) x reply) (sym (append-nil before)) is))
alone-in-order nw names st before x reply is (suc place) y r at_y at_r = absurd (omega (arith, slice_get_within (x ∷ []) (suc place) y at_y))

window-there : (nw : Network) (names : Names) (st : State) (before : List Line) (x : Line) (reply : Reply)
    → IsReplyTo (service_after nw names st before) (length before + 1) x reply → AreWindowReplies nw names st before (x ∷ []) (reply ∷ [])
window-there nw names st before x reply is = window-in-order nw names st before (x ∷ []) (reply ∷ []) refl (alone-in-order nw names st before x reply is)

-- ---- all windows

-- the text of the one reply of a window, and those of later ones
one-text : (nw : Network) (names : Names) (st : State) (before : List Line) (x : Line) (reply : Reply) (later : List ℕ) → IsReplyTo (service_after nw names st before) (length before + 1) x reply
    → text_of_reply (names_after nw names st before) reply ++ later ≡ text_of_replies (names_after nw names st (before ++ x ∷ [])) (reply ∷ []) ++ later
one-text nw names st before x reply later is =
    ap (λ (b : List ℕ). b ++ later) (sym (reply-text nw names st before x (length before + 1) reply is) ∙ sym (append-nil (text_of_reply (names_after nw names st (before ++ x ∷ [])) reply)))

record FromLines (nw : Network) (names : Names) (st : State) (before lines : List Line) (bytes : List ℕ) : Type 0 where
  replies : List (List Reply)
  are : AreRepliesFrom nw names st before (single_windows lines) replies
  text : bytes ≡ text_from nw names st before (single_windows lines) replies

lines-there : (nw : Network) (names : Names) (st : State) (before lines : List Line) (bytes : List ℕ) → AreReplies nw names st before lines bytes → FromLines nw names st before lines bytes
lines-there nw names st before [] bytes none = record { replies = []; are = tt; text = none }
lines-there nw names st before (x ∷ xs) bytes h =
    let rest = lines-there nw names st (before ++ x ∷ []) xs h.1 h.3 in
    let reply = h.2.reply in
    record {
      replies = (reply ∷ []) ∷ rest.replies;
      are = (window-there nw names st before x reply h.2.is_reply, rest.are);
      text = h.4 ∙ ap (λ (b : List ℕ). b ++ h.1) h.2.text
          ∙ one-text nw names st before x reply h.1 h.2.is_reply
          ∙ ap (λ (b : List ℕ). text_of_replies (names_after nw names st (before ++ x ∷ [])) (reply ∷ []) ++ b) rest.text;
    }

one-back : (nw : Network) (names : Names) (st : State) (before : List Line) (x : Line) (xs : List Line) (bytes later : List ℕ) (rs : List Reply) → AreWindowReplies nw names st before (x ∷ []) rs
    → AreReplies nw names st (before ++ x ∷ []) xs later → bytes ≡ text_of_replies (names_after nw names st (before ++ x ∷ [])) rs ++ later → AreReplies nw names st before (x ∷ xs) bytes
one-back nw names st before x xs bytes later [] h rest text = absurd (omega (arith, h.one_each))
one-back nw names st before x xs bytes later (r ∷ s ∷ rs) h rest text = absurd (omega (arith, h.one_each))
one-back nw names st before x xs bytes later (r ∷ []) h rest text =
    let is : IsReplyTo (service_after nw names st before) (length before + 1) x r = said-back nw names st before x (said_by x) r refl (h.are 0 x r refl refl) in (
      text_of_reply (names_after nw names st before) r,
      later,
      record { reply = r; is_reply = is; text = refl },
      rest,
      text ∙ sym (one-text nw names st before x r later is),
    )

lines-back : (nw : Network) (names : Names) (st : State) (before lines : List Line) (rs : List (List Reply)) (bytes : List ℕ) → AreRepliesFrom nw names st before (single_windows lines) rs
    → bytes ≡ text_from nw names st before (single_windows lines) rs → AreReplies nw names st before lines bytes
lines-back nw names st before [] [] bytes are text = text
lines-back nw names st before [] (r ∷ rs) bytes are text = absurd are
lines-back nw names st before (x ∷ xs) [] bytes are text = absurd are
lines-back nw names st before (x ∷ xs) (r ∷ rs) bytes are text =
    let later = text_from nw names st (before ++ x ∷ []) (single_windows xs) rs in
    one-back nw names st before x xs bytes later r are.0 (lines-back nw names st (before ++ x ∷ []) xs rs later are.1 refl) text

-- what is written for windows of one line each is one reply after the other
pub singles-are : (nw : Network) (names : Names) (st : State) (lines : List Line) (bytes : List ℕ) → AreServed nw names st (single_windows lines) bytes ↔ AreReplies nw names st [] lines bytes
singles-are nw names st lines bytes = (
  λ h. lines-back nw names st [] lines h.replies bytes h.are h.text,
  λ h. let all = lines-there nw names st [] lines bytes h in served-by nw names st (single_windows lines) all.replies bytes all.are all.text,
)
