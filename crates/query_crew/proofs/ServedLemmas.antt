-- Counts along windows, and one window more.
use Rattle.query_crew.proofs.Words.{◌≡◌, ◌<◌, ◌≤◌, ℕ, suc, ◌+◌, List, [], ◌∷◌, ◌++◌, length, Option, Some, None, Result, Ok, Err, refl, sym, ◌∙◌, ap, subst, arith, inl, inr, length-append, append_assoc, take, All, option_map_or, append-nil, take-append-le, same_Some, All-append, All-cons, All-nil, filter_map-append, Message, Network, State, after_messages, accepted, lines_of, Reply, said_by, messages_of, by_names, accepted_of, names_after, IsReplyToResolved, BadLine, AskedQuery, Flush, WireQuery, message_in, query_resolved, Line, Names, IsQueryReply, IsReplyAt, shown_count, AreWindowReplies, AreRepliesFrom, text_of_replies, text_from, AreServed, with_last, AreReadWindows}
use Rattle.std.specs.List.{slice_get}
use Rattle.std.proofs.lemmas.Option.{none-some}
use Rattle.delay_model.specs.Windows.{Answer, CountsDoNotFall}
use Rattle.delay_model.proofs.AfterLemmas.{accepted-append}
use Rattle.delay_model.proofs.Lists.{AllPairs-append, AllPairs-nil}
use Rattle.message_reader.specs.declared.wire.Line.{Line as Spoken}
use Rattle.message_reader.specs.declared.wire.Line.TheVariants.{Message as Says, Query as Asks}
use Rattle.query_crew.specs.Served.{shown_to, shown_counts, replies_of, IsServed}
use Rattle.query_crew.proofs.Ends.{read-windows}

-- ---- accepted messages

-- the accepted messages of more lines begin with those of the first lines
abbrev pub Later : Network → Names → State → List Line → List Line → List Message
Later nw names st before w =
    accepted nw by_names (after_messages st (accepted_of nw names st before)) (names_after nw names st before) (messages_of w)

pub accepted-more : (nw : Network) (names : Names) (st : State) (before w : List Line) → accepted_of nw names st (before ++ w) ≡ accepted_of nw names st before ++ Later nw names st before w
accepted-more nw names st before w =
    ap (accepted nw by_names st names) (filter_map-append (λ (x : Line). message_in (said_by x)) before w) ∙ accepted-append nw by_names st names (messages_of before) (messages_of w)

-- so they are no fewer
pub accepted-rise : (nw : Network) (names : Names) (st : State) (before w : List Line) → length (accepted_of nw names st before) ≤ length (accepted_of nw names st (before ++ w))
accepted-rise nw names st before w =
    omega (arith, ap length (accepted-more nw names st before w), length-append (accepted_of nw names st before) (Later nw names st before w))

-- and the first of them are the first of those of all lines
pub accepted-first : (nw : Network) (names : Names) (st : State) (lines later : List Line) (count : ℕ)
    → count ≤ length (accepted_of nw names st lines) → take count (accepted_of nw names st (lines ++ later)) ≡ take count (accepted_of nw names st lines)
accepted-first nw names st lines later count few =
    ap (take count) (accepted-more nw names st lines later) ∙ take-append-le count (accepted_of nw names st lines) (Later nw names st lines later) few

-- ---- counts that are shown

-- those to lines and to more lines
shown-append : (xs ys : List Line) (rs ss : List Reply) → length rs ≡ length xs → shown_counts (xs ++ ys) (rs ++ ss) ≡ shown_counts xs rs ++ shown_counts ys ss
shown-append [] ys [] ss same = refl
shown-append [] ys (r ∷ rs) ss same = absurd (omega (arith, same))
shown-append (x ∷ xs) ys [] ss same = absurd (omega (arith, same))
shown-append (x ∷ xs) ys (r ∷ rs) ss same =
    ap (λ (l : List (Answer (List ℕ))). shown_to (said_by x) r ++ l) (shown-append xs ys rs ss (omega (arith, same)))
    ∙ sym (append_assoc (shown_to (said_by x) r) (shown_counts xs rs) (shown_counts ys ss))

-- what holds of the counts of each line holds of all
shown-each : (P : Answer (List ℕ) → Type 0) (xs : List Line) (rs : List Reply) → ((place : ℕ) (x : Line) (r : Reply)
    → slice_get xs place ≡ Some x → slice_get rs place ≡ Some r → All P (shown_to (said_by x) r)) → All P (shown_counts xs rs)
shown-each P [] rs each = All-nil P
shown-each P (x ∷ xs) [] each = All-nil P
shown-each P (x ∷ xs) (r ∷ rs) each =
    All-append P (shown_to (said_by x) r) (shown_counts xs rs) (each 0 x r refl refl) (shown-each P xs rs (λ place y s at_line at_reply. each (suc place) y s at_line at_reply))

-- what holds of each count that a reply to a query shows holds of those that any reply shows
count-by : (P : Answer (List ℕ) → Type 0) (client : List ℕ) (o : Option ℕ)
    → ((n : ℕ) → o ≡ Some n → P (record { client = client; count = n })) → All P (option_map_or (λ n. record { client = client; count = n } ∷ []) o [])
count-by P client None h = All-nil P
count-by P client (Some n) h = All-cons P (record { client = client; count = n }) [] (h n refl) (All-nil P)

shown-by : (P : Answer (List ℕ) → Type 0) (said : Result Spoken BadLine) (reply : Reply)
    → ((q : WireQuery) (n : ℕ) → said ≡ Ok (Asks q) → shown_count reply ≡ Some n → P (record { client = q.client; count = n })) → All P (shown_to said reply)
shown-by P (Ok (Asks q)) reply h = count-by P q.client (shown_count reply) (λ n shows. h q n refl shows)
shown-by P (Ok (Says w)) reply h = All-nil P
shown-by P (Ok Flush) reply h = All-nil P
shown-by P (Err b) reply h = All-nil P

-- a reply shows one count at most
abbrev DoesNotFall : Answer (List ℕ) → Answer (List ℕ) → Type 0
DoesNotFall a b = a.client ≡ b.client → a.count ≤ b.count

count-alone : (client : List ℕ) (o : Option ℕ) → CountsDoNotFall (option_map_or (λ n. record { client = client; count = n } ∷ []) o [])
count-alone client None = AllPairs-nil DoesNotFall
count-alone client (Some n) = λ i j d less l. absurd (omega (arith, less, l))

shown-alone : (said : Result Spoken BadLine) (reply : Reply) → CountsDoNotFall (shown_to said reply)
shown-alone (Ok (Asks q)) reply = count-alone q.client (shown_count reply)
shown-alone (Ok (Says w)) reply = AllPairs-nil DoesNotFall
shown-alone (Ok Flush) reply = AllPairs-nil DoesNotFall
shown-alone (Err b) reply = AllPairs-nil DoesNotFall

-- counts do not fall where those of each two queries of one client do not
pub counts-by-place : (xs : List Line) (rs : List Reply)
    → ((i j : ℕ) (x y : Line) (r s : Reply) (q p : WireQuery) (m n : ℕ) → i < j → slice_get xs i ≡ Some x → slice_get xs j ≡ Some y → slice_get rs i ≡ Some r → slice_get rs j ≡ Some s
    → said_by x ≡ Ok (Asks q) → said_by y ≡ Ok (Asks p) → shown_count r ≡ Some m → shown_count s ≡ Some n → q.client ≡ p.client → m ≤ n)
    → CountsDoNotFall (shown_counts xs rs)
counts-by-place [] rs h = AllPairs-nil DoesNotFall
counts-by-place (x ∷ xs) [] h = AllPairs-nil DoesNotFall
counts-by-place (x ∷ xs) (r ∷ rs) h =
    AllPairs-append DoesNotFall (shown_to (said_by x) r) (shown_counts xs rs) (shown-alone (said_by x) r)
    (counts-by-place xs rs (λ i j y z s t q p m n less at_y at_z at_s at_t. h (suc i) (suc j) y z s t q p m n (omega (arith, less)) at_y at_z at_s at_t))
    (shown-by (λ a. All (DoesNotFall a) (shown_counts xs rs)) (said_by x) r (λ q m asks shows.
    shown-each (DoesNotFall (record { client = q.client; count = m })) xs rs (λ j y s at_y at_s.
    shown-by (DoesNotFall (record { client = q.client; count = m })) (said_by y) s (λ p n asks_too shows_too same.
    h 0 (suc j) x y r s q p m n (omega arith) refl at_y refl at_s asks asks_too shows shows_too same))))

-- the count lies between these two
abbrev LiesWithin : ℕ → ℕ → Answer (List ℕ) → Type 0
LiesWithin lower upper a = (lower ≤ a.count) × (a.count ≤ upper)

-- the count that a reply to a query shows is that of the state in which it is answered
pub count-of : (nw : Network) (st : State) (count line m : ℕ) (asked : Result AskedQuery BadLine) (reply : Reply)
    → IsReplyToResolved nw st count line asked reply → shown_count reply ≡ Some m → count ≡ m
count-of nw st count line m (Ok asked) reply (inl way) shows = same_Some count m (sym (ap shown_count way.2) ∙ shows)
count-of nw st count line m (Ok asked) reply (inr none) shows = same_Some count m (sym (ap shown_count none.0) ∙ shows)
count-of nw st count line m (Err b) reply is shows = absurd (none-some m (sym (ap shown_count is) ∙ shows))

-- each reply to a query that is not bad shows one
asked-shows : (nw : Network) (st : State) (count line : ℕ) (asked : AskedQuery) (reply : Reply) → IsReplyToResolved nw st count line (Ok asked) reply → shown_count reply ≡ Some count
asked-shows nw st count line asked reply (inl way) = ap shown_count way.2
asked-shows nw st count line asked reply (inr none) = ap shown_count none.0

pub query-shows : (nw : Network) (names : Names) (st : State) (before w : List Line) (number : ℕ) (q : WireQuery) (asked : AskedQuery) (reply : Reply)
    → (r : IsQueryReply nw names st before w number q reply) → query_resolved names q ≡ Ok asked
    → shown_count reply ≡ Some r.count
query-shows nw names st before w number q asked reply r is =
    let now = after_messages st (take r.count (accepted_of nw names st (before ++ w))) in
    asked-shows nw now r.count number asked reply (subst (λ (a : Result AskedQuery BadLine). IsReplyToResolved nw now r.count number a reply) is r.answers)

-- the counts of a window lie between those of messages accepted at its start and at its end
line-within : (nw : Network) (names : Names) (st : State) (before w : List Line) (place : ℕ) (said : Result Spoken BadLine) (reply : Reply) → IsReplyAt nw names st before w place said reply
    → All (LiesWithin (length (accepted_of nw names st before)) (length (accepted_of nw names st (before ++ w)))) (shown_to said reply)
line-within nw names st before w place said reply is =
    let lower = length (accepted_of nw names st before) in
    let upper = length (accepted_of nw names st (before ++ w)) in
    shown-by (LiesWithin lower upper) said reply (λ q n asks shows.
    let at : IsQueryReply nw names st before w (length before + (place + 1)) q reply = subst (λ (s : Result Spoken BadLine). IsReplyAt nw names st before w place s reply) asks is in
    let now = after_messages st (take at.count (accepted_of nw names st (before ++ w))) in
    subst (λ (m : ℕ). (lower ≤ m) × (m ≤ upper)) (count-of nw now at.count (length before + (place + 1)) n (query_resolved names q) reply at.answers shows) (at.lower, at.upper))

window-within : (nw : Network) (names : Names) (st : State) (before w : List Line) (rs : List Reply) → AreWindowReplies nw names st before w rs
    → All (LiesWithin (length (accepted_of nw names st before)) (length (accepted_of nw names st (before ++ w)))) (shown_counts w rs)
window-within nw names st before w rs h =
    shown-each (LiesWithin (length (accepted_of nw names st before)) (length (accepted_of nw names st (before ++ w)))) w rs
    (λ place x r at_line at_reply. line-within nw names st before w place (said_by x) r (h.are place x r at_line at_reply))

-- the counts of windows are not below that of the messages accepted before them
abbrev IsNotBelow : ℕ → Answer (List ℕ) → Type 0
IsNotBelow least a = least ≤ a.count

counts-above : (nw : Network) (names : Names) (st : State) (before : List Line) (ws : List (List Line)) (rs : List (List Reply)) → AreRepliesFrom nw names st before ws rs
    → All (IsNotBelow (length (accepted_of nw names st before))) (shown_counts (lines_of ws) (replies_of rs))
counts-above nw names st before [] [] h = All-nil (IsNotBelow (length (accepted_of nw names st before)))
counts-above nw names st before [] (r ∷ rs) h = absurd h
counts-above nw names st before (w ∷ ws) [] h = absurd h
counts-above nw names st before (w ∷ ws) (r ∷ rs) h =
    let least = length (accepted_of nw names st before) in
    let rise = accepted-rise nw names st before w in
    let here = window-within nw names st before w r h.0 in
    let later = counts-above nw names st (before ++ w) ws rs h.1 in
    subst (All (IsNotBelow least)) (sym (shown-append w (lines_of ws) r (replies_of rs) h.0.one_each))
    (All-append (IsNotBelow least) (shown_counts w r) (shown_counts (lines_of ws) (replies_of rs)) (λ k d l. let at = here k d l in at.0) (λ k d l. omega (arith, rise, later k d l)))

-- along all lines the counts that are shown to one client do not fall
pub counts-along : (nw : Network) (names : Names) (st : State) (before : List Line) (ws : List (List Line)) (rs : List (List Reply)) → AreRepliesFrom nw names st before ws rs
    → CountsDoNotFall (shown_counts (lines_of ws) (replies_of rs))
counts-along nw names st before [] [] h = AllPairs-nil DoesNotFall
counts-along nw names st before [] (r ∷ rs) h = absurd h
counts-along nw names st before (w ∷ ws) [] h = absurd h
counts-along nw names st before (w ∷ ws) (r ∷ rs) h =
    let here = window-within nw names st before w r h.0 in
    let later = counts-above nw names st (before ++ w) ws rs h.1 in
    subst CountsDoNotFall (sym (shown-append w (lines_of ws) r (replies_of rs) h.0.one_each))
    (AllPairs-append DoesNotFall (shown_counts w r) (shown_counts (lines_of ws) (replies_of rs)) h.0.counts
    (counts-along nw names st (before ++ w) ws rs h.1)
    (λ i d l j e m same. let at = here i d l in omega (arith, at.1, later j e m)))

-- ---- one window more

pub replies-more : (nw : Network) (names : Names) (st : State) (before : List Line) (ws : List (List Line)) (rs : List (List Reply)) (w : List Line) (r : List Reply)
    → AreRepliesFrom nw names st before ws rs → AreWindowReplies nw names st (before ++ lines_of ws) w r → AreRepliesFrom nw names st before (ws ++ w ∷ []) (rs ++ r ∷ [])
replies-more nw names st before [] [] w r h one = (subst (λ (b : List Line). AreWindowReplies nw names st b w r) (append-nil before) one, tt)
replies-more nw names st before [] (s ∷ rs) w r h one = absurd h
replies-more nw names st before (v ∷ ws) [] w r h one = absurd h
replies-more nw names st before (v ∷ ws) (s ∷ rs) w r h one = (
  h.0,
  replies-more nw names st (before ++ v) ws rs w r h.1 (subst (λ (b : List Line). AreWindowReplies nw names st b w r) (sym (append_assoc before v (lines_of ws))) one),
)

text-more : (nw : Network) (names : Names) (st : State) (before : List Line) (ws : List (List Line)) (rs : List (List Reply)) (w : List Line) (r : List Reply) → AreRepliesFrom nw names st before ws rs
    → text_from nw names st before (ws ++ w ∷ []) (rs ++ r ∷ []) ≡ text_from nw names st before ws rs ++ text_of_replies (names_after nw names st (before ++ lines_of ws ++ w)) r
text-more nw names st before [] [] w r h =
    append-nil (text_of_replies (names_after nw names st (before ++ w)) r) ∙ ap (λ (b : List Line). text_of_replies (names_after nw names st (b ++ w)) r) (sym (append-nil before))
text-more nw names st before [] (s ∷ rs) w r h = absurd h
text-more nw names st before (v ∷ ws) [] w r h = absurd h
text-more nw names st before (v ∷ ws) (s ∷ rs) w r h =
    let here = text_of_replies (names_after nw names st (before ++ v)) s in
    ap (λ (b : List ℕ). here ++ b) (text-more nw names st (before ++ v) ws rs w r h.1)
    ∙ sym (append_assoc here (text_from nw names st (before ++ v) ws rs) (text_of_replies (names_after nw names st (before ++ v ++ lines_of ws ++ w)) r))
    ∙ ap (λ (b : List Line). (here ++ text_from nw names st (before ++ v) ws rs) ++ text_of_replies (names_after nw names st (b ++ w)) r) (append_assoc before v (lines_of ws))

-- replies and their texts, whose counts follow
pub served-by : (nw : Network) (names : Names) (st : State) (ws : List (List Line)) (rs : List (List Reply)) (bytes : List ℕ)
    → AreRepliesFrom nw names st [] ws rs → bytes ≡ text_from nw names st [] ws rs → AreServed nw names st ws bytes
served-by nw names st ws rs bytes are text = record { replies = rs; are = are; counts = counts-along nw names st [] ws rs are; text = text }

pub none-served : (nw : Network) (names : Names) (st : State) → AreServed nw names st [] []
none-served nw names st = served-by nw names st [] [] [] tt refl

pub window-more : (nw : Network) (names : Names) (st : State) (ws : List (List Line)) (w : List Line) (bytes : List ℕ) (r : List Reply)
    → AreServed nw names st ws bytes → AreWindowReplies nw names st (lines_of ws) w r
    → AreServed nw names st (ws ++ w ∷ []) (bytes ++ text_of_replies (names_after nw names st (lines_of ws ++ w)) r)
window-more nw names st ws w bytes r h one =
    served-by nw names st (ws ++ w ∷ []) (h.replies ++ r ∷ []) (bytes ++ text_of_replies (names_after nw names st (lines_of ws ++ w)) r) (replies-more nw names st [] ws h.replies w r h.are one)
    (ap (λ (b : List ℕ). b ++ text_of_replies (names_after nw names st (lines_of ws ++ w)) r) h.text ∙ sym (text-more nw names st [] ws h.replies w r h.are))

-- the last lines are a window if there are any
last-window : (nw : Network) (names : Names) (st : State) (ws : List (List Line)) (last : List Line) (bytes : List ℕ) (r : List Reply)
    → AreServed nw names st ws bytes → AreWindowReplies nw names st (lines_of ws) last r
    → AreServed nw names st (with_last ws last) (bytes ++ text_of_replies (names_after nw names st (lines_of ws ++ last)) r)
last-window nw names st ws [] bytes [] h one = subst (AreServed nw names st ws) (sym (append-nil bytes)) h
last-window nw names st ws [] bytes (s ∷ r) h one = absurd (omega (arith, one.one_each))
last-window nw names st ws (x ∷ xs) bytes r h one = window-more nw names st ws (x ∷ xs) bytes r h one

pub input-served : (nw : Network) (names : Names) (st : State) (ws : List (List Line)) (last : List Line) (bytes : List ℕ) (r : List Reply)
    → AreReadWindows ws last → AreServed nw names st ws bytes → AreWindowReplies nw names st (lines_of ws) last r
    → IsServed nw names st (lines_of ws ++ last) (bytes ++ text_of_replies (names_after nw names st (lines_of ws ++ last)) r)
input-served nw names st ws last bytes r read h one =
    subst (λ (vs : List (List Line)). AreServed nw names st vs (bytes ++ text_of_replies (names_after nw names st (lines_of ws ++ last)) r))
    (sym (read-windows ws last read)) (last-window nw names st ws last bytes r h one)
