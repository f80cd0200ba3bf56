-- The names that lines leave: what queries ask by them, and what replies say by them.
use Rattle.query_crew.proofs.Words.{◌≡◌, ℕ, List, [], ◌∷◌, ◌++◌, Option, Some, None, Result, Ok, Err, is_none, length, refl, sym, ◌∙◌, ap, option_map_or, filter_map-append, fold-append, Message, Refusal, Network, State, after_messages, effect, refusal, Reply, text_of_reply, said_by, messages_of, added_name, with_added, by_names, accepted_of, names_after, IsReply, IsReplyTo, service_after, BadLine, Flush, Wire, WireQuery, message_in, resolved, query_resolved, Line, Names}
use Rattle.std.proofs.Common.{cond}
use Rattle.std.specs.List.{fold}
use Rattle.delay_model.specs.After.{after_accepted, accepted_message, after_line, known_after, Progress}
use Rattle.delay_model.specs.Names.{TrainName}
use Rattle.delay_model.proofs.WindowLemmas.{beginning, progress-all}
use Rattle.information_service.specs.Lines.{names_with}
use Rattle.information_service.specs.Output.{reply_by_refusal, reply_to_message}
use Rattle.message_reader.specs.declared.wire.Line.{Line as Spoken}
use Rattle.message_reader.specs.declared.wire.Line.TheVariants.{Message as Says, Query as Asks}
use Rattle.message_reader.specs.ResolvedQueries.{stop_or_station_named}
use Rattle.schedule_build.specs.Directory.{day_named, place_named}

-- ---- what queries ask

-- the same service days and places
record IsSame (a b : Names) : Type 0 where
  days : b.days ≡ a.days
  places : b.places ≡ a.places

added-same : (names : Names) (name : Option TrainName) → IsSame names (with_added name names)
added-same names None = record { days = refl; places = refl }
added-same names (Some n) = record { days = refl; places = refl }

same-by : (a : Names) (o : Option Message) (more : Message → Names) (other : Names) → ((m : Message) → IsSame a (more m)) → IsSame a other → IsSame a (option_map_or more o other)
same-by a None more other h k = k
same-by a (Some m) more other h k = h m

known-same : (nw : Network) (st : State) (names : Names) (ws : List Wire) → IsSame names (known_after nw by_names st names ws)
known-same nw st names [] = record { days = refl; places = refl }
known-same nw st names (w ∷ ws) =
    same-by names (accepted_message nw st (resolved names w)) (λ m. known_after nw by_names (effect st m) (names_with names w) ws) (known_after nw by_names st names ws)
    (λ m. let one = added-same names (added_name names w) in
    let rest = known-same nw (effect st m) (names_with names w) ws in
    record { days = rest.days ∙ one.days; places = rest.places ∙ one.places })
    (known-same nw st names ws)

asked-same : (a b : Names) (q : WireQuery) → IsSame a b → query_resolved b q ≡ query_resolved a q
unfolding query_resolved stop_or_station_named place_named day_named
asked-same a b q h = rw (h.days, h.places) refl

-- no line changes what a query asks
pub asked-by-feed : (nw : Network) (names : Names) (st : State) (lines : List Line) (q : WireQuery) → query_resolved (names_after nw names st lines) q ≡ query_resolved names q
asked-by-feed nw names st lines q = asked-same names (names_after nw names st lines) q (known-same nw st names (messages_of lines))

-- ---- what replies say

-- what lines leave
abbrev left : Network → Names → State → List Line → Progress Names
left nw names st lines = record {
  state = after_messages st (accepted_of nw names st lines);
  names = names_after nw names st lines;
  count = length (accepted_of nw names st lines);
}

-- the names after one line more
names-next : (nw : Network) (names : Names) (st : State) (before : List Line) (x : Line)
    → names_after nw names st (before ++ x ∷ []) ≡ (fold (after_line nw by_names) (left nw names st before) (messages_of (x ∷ []))).names
names-next nw names st before x =
    let next : Progress Names → Wire → Progress Names = after_line nw by_names in
    let ms = messages_of before in
    ap (known_after nw by_names st names) (filter_map-append (λ (y : Line). message_in (said_by y)) before (x ∷ []))
    ∙ ap (λ (p : Progress Names). p.names) (sym (progress-all nw by_names st names (ms ++ messages_of (x ∷ []))) ∙ fold-append next (beginning st names) ms (messages_of (x ∷ [])))
    ∙ ap (λ (p : Progress Names). (fold next p (messages_of (x ∷ []))).names) (progress-all nw by_names st names ms)

-- the reply to a message has the same text by the names after it: one that is accepted shows none
answer-text : (p : Progress Names) (nw : Network) (w : Wire) (m : Message) (line : ℕ) (o : Option Refusal)
    → text_of_reply (after_accepted p (names_with p.names w) (cond (is_none o) (Some m) None)).names (reply_by_refusal nw p.names p.state p.count line w m o)
    ≡ text_of_reply p.names (reply_by_refusal nw p.names p.state p.count line w m o)
unfolding text_of_reply
answer-text p nw w m line None = refl
answer-text p nw w m line (Some r) = refl

message-text : (p : Progress Names) (nw : Network) (w : Wire) (line : ℕ) (read : Result Message Refusal)
    → text_of_reply (after_accepted p (names_with p.names w) (accepted_message nw p.state read)).names (reply_to_message nw p.names p.state p.count line w read)
    ≡ text_of_reply p.names (reply_to_message nw p.names p.state p.count line w read)
message-text p nw w line (Ok m) = answer-text p nw w m line (refusal nw p.state m)
message-text p nw w line (Err r) = refl

-- a line without a message adds no name
same-text : (nw : Network) (names : Names) (st : State) (before : List Line) (x : Line) (reply : Reply)
    → messages_of (x ∷ []) ≡ [] → text_of_reply (names_after nw names st (before ++ x ∷ [])) reply ≡ text_of_reply (names_after nw names st before) reply
same-text nw names st before x reply none =
    ap (λ (n : Names). text_of_reply n reply) (names-next nw names st before x ∙ ap (λ (l : List Wire). (fold (after_line nw by_names) (left nw names st before) l).names) none)

-- the reply to any line has the same text by the names after it
said-text : (nw : Network) (names : Names) (st : State) (before : List Line) (x : Line) (said : Result Spoken BadLine) (line : ℕ) (reply : Reply) → said_by x ≡ said
    → (let p = left nw names st before in IsReply nw p.names p.state p.count line said reply)
    → text_of_reply (names_after nw names st (before ++ x ∷ [])) reply ≡ text_of_reply (names_after nw names st before) reply
said-text nw names st before x (Ok (Says w)) line reply e is =
    let p = left nw names st before in
    let one : messages_of (x ∷ []) ≡ w ∷ [] = rw e refl in
    let next = after_accepted p (names_with p.names w) (accepted_message nw p.state (resolved p.names w)) in
    ap (λ (n : Names). text_of_reply n reply) (names-next nw names st before x ∙ ap (λ (l : List Wire). (fold (after_line nw by_names) p l).names) one)
    ∙ ap (text_of_reply next.names) is ∙ message-text p nw w line (resolved p.names w) ∙ ap (text_of_reply p.names) (sym is)
said-text nw names st before x (Ok (Asks q)) line reply e is = same-text nw names st before x reply (rw e refl)
said-text nw names st before x (Ok Flush) line reply e is = same-text nw names st before x reply (rw e refl)
said-text nw names st before x (Err b) line reply e is = same-text nw names st before x reply (rw e refl)

pub reply-text : (nw : Network) (names : Names) (st : State) (before : List Line) (x : Line) (line : ℕ) (reply : Reply) → IsReplyTo (service_after nw names st before) line x reply
    → text_of_reply (names_after nw names st (before ++ x ∷ [])) reply ≡ text_of_reply (names_after nw names st before) reply
reply-text nw names st before x line reply is = said-text nw names st before x (said_by x) line reply refl is
