-- Replies to lines in their order, each in the state after the lines before it, as replies of a window.
use Rattle.query_crew.proofs.Words.{◌≡◌, ◌≤◌, ℕ, ◌+◌, List, ◌++◌, length, Some, Result, Ok, Err, sym, ◌∙◌, ap, subst, arith, append_assoc, take, drop, take-length, Message, Network, State, after_messages, Reply, said_by, accepted_of, IsReply, IsReplyTo, IsReplyToResolved, service_after, BadLine, AskedQuery, Flush, WireQuery, query_resolved, Line, Names, IsQueryReply, IsReplyAt, shown_count, AreWindowReplies}
use Rattle.std.specs.List.{slice_get}
use Rattle.std.proofs.lemmas.List.{take-append-drop, take-take}
use Rattle.message_reader.specs.declared.wire.Line.{Line as Spoken}
use Rattle.message_reader.specs.declared.wire.Line.TheVariants.{Message as Says, Query as Asks}
use Rattle.query_crew.proofs.KnownNames.{asked-by-feed}
use Rattle.query_crew.proofs.ServedLemmas.{accepted-rise, accepted-first, count-of, counts-by-place}

-- the first lines of a window, and the others
whole : (before w : List Line) (place : ℕ) → before ++ take place w ++ drop place w ≡ before ++ w
whole before w place = append_assoc before (take place w) (drop place w) ∙ ap (λ (l : List Line). before ++ l) (take-append-drop place w)

-- no more messages are accepted of the first lines
up-to : (nw : Network) (names : Names) (st : State) (before w : List Line) (place : ℕ) → length (accepted_of nw names st (before ++ take place w)) ≤ length (accepted_of nw names st (before ++ w))
up-to nw names st before w place =
    subst (λ (l : List Line). length (accepted_of nw names st (before ++ take place w)) ≤ length (accepted_of nw names st l))
    (whole before w place) (accepted-rise nw names st (before ++ take place w) (drop place w))

up-to-later : (nw : Network) (names : Names) (st : State) (before w : List Line) (i j : ℕ)
    → i ≤ j → length (accepted_of nw names st (before ++ take i w)) ≤ length (accepted_of nw names st (before ++ take j w))
up-to-later nw names st before w i j le =
    subst (λ (l : List Line). length (accepted_of nw names st (before ++ l)) ≤ length (accepted_of nw names st (before ++ take j w))) (take-take i j w le) (up-to nw names st before (take j w) i)

query-in-order : (nw : Network) (names : Names) (st : State) (before w : List Line) (place number : ℕ) (q : WireQuery) (reply : Reply)
    → (let t = service_after nw names st (before ++ take place w) in IsReplyToResolved nw t.state t.count number (query_resolved t.names q) reply) → IsQueryReply nw names st before w number q reply
query-in-order nw names st before w place number q reply is =
    let lines = before ++ take place w in
    let ms = accepted_of nw names st lines in
    let first : take (length ms) (accepted_of nw names st (before ++ w)) ≡ ms =
    ap (λ (l : List Line). take (length ms) (accepted_of nw names st l)) (sym (whole before w place)) ∙ accepted-first nw names st lines (drop place w) (length ms) (omega arith) ∙ take-length ms in
    record {
      count = length ms;
      lower = accepted-rise nw names st before (take place w);
      upper = up-to nw names st before w place;
      answers = subst (λ (l : List Message). IsReplyToResolved nw (after_messages st l) (length ms) number (query_resolved names q) reply) (sym first)
          (subst (λ (asked : Result AskedQuery BadLine). IsReplyToResolved nw (after_messages st ms) (length ms) number asked reply) (asked-by-feed nw names st lines q) is);
    }

said-in-order : (nw : Network) (names : Names) (st : State) (before w : List Line) (place : ℕ) (said : Result Spoken BadLine) (reply : Reply)
    → (let t = service_after nw names st (before ++ take place w) in IsReply nw t.names t.state t.count (length before + (place + 1)) said reply) → IsReplyAt nw names st before w place said reply
said-in-order nw names st before w place (Ok (Asks q)) reply is = query-in-order nw names st before w place (length before + (place + 1)) q reply is
said-in-order nw names st before w place (Ok (Says m)) reply is = is
said-in-order nw names st before w place (Ok Flush) reply is = is
said-in-order nw names st before w place (Err b) reply is = is

-- the count that is shown is that of the state in which a query is answered
count-in-order : (nw : Network) (names : Names) (st : State) (lines : List Line) (number m : ℕ) (x : Line) (reply : Reply) (q : WireQuery)
    → IsReplyTo (service_after nw names st lines) number x reply → said_by x ≡ Ok (Asks q) → shown_count reply ≡ Some m
    → length (accepted_of nw names st lines) ≡ m
count-in-order nw names st lines number m x reply q is asks shows =
    let t = service_after nw names st lines in
    count-of nw t.state t.count number m (query_resolved t.names q) reply (subst (λ (said : Result Spoken BadLine). IsReply nw t.names t.state t.count number said reply) asks is) shows

pub window-in-order : (nw : Network) (names : Names) (st : State) (before w : List Line) (rs : List Reply) → length rs ≡ length w
    → ((place : ℕ) (x : Line) (reply : Reply) → slice_get w place ≡ Some x
    → slice_get rs place ≡ Some reply → IsReplyTo (service_after nw names st (before ++ take place w)) (length before + (place + 1)) x reply)
    → AreWindowReplies nw names st before w rs
window-in-order nw names st before w rs same h =
    record {
      one_each = same;
      are = λ place x reply at_line at_reply. said-in-order nw names st before w place (said_by x) reply (h place x reply at_line at_reply);
      counts = counts-by-place w rs (λ i j x y r s q p m n less at_x at_y at_r at_s asks asks_too shows shows_too _.
          omega (
            arith,
            up-to-later nw names st before w i j (omega (arith, less)),
            count-in-order nw names st (before ++ take i w) (length before + (i + 1)) m x r q (h i x r at_x at_r) asks shows,
            count-in-order nw names st (before ++ take j w) (length before + (j + 1)) n y s p (h j y s at_y at_s) asks_too shows_too,
          ));
    }
