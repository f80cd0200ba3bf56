-- Networks with the same change times, waits and stations have the same outputs.
use Rattle.information_service.proofs.Words.{◌≡◌, ◌++◌, ◌+◌, ℕ, zero, suc, List, [], ◌∷◌, Option, Result, Ok, Err, arith, refl, Message, Refusal, Network, State, accepted, accepted_message, known_after, refusal, Reply, rows_from, table, BadLine, AskedQuery, Wire, query_resolved, Line, Names, messages_of, by_names, reply_to_message, IsReplyToResolved, IsReply, IsTextAfter, AreReplies, IsOutput}
use Rattle.mt_base.specs.declared.keys.Key.{Key}
use Rattle.mt_base.specs.declared.journeys.PlanRide.{PlanRide}
use Rattle.mt_base.specs.declared.journeys.Query.{Query}
use Rattle.delay_model.specs.declared.overrides.Override.{Override}
use Rattle.delay_model.specs.declared.state.Event.{Event}
use Rattle.delay_model.specs.After.{Reading}
use Rattle.delay_model.specs.Edges.{transfer, edges}
use Rattle.delay_model.specs.Journeys.{IsRide, GoesOn, IsJourney}
use Rattle.delay_model.specs.Refusals.{against_rank}
use Rattle.delay_model.specs.Timing.{event_time}
use Rattle.delay_model.specs.Touched.{changed, changed_count}
use Rattle.message_reader.specs.declared.wire.Line.{Line as Spoken}
use Rattle.message_reader.specs.declared.wire.Line.TheVariants.{Query as Asks}
use Rattle.information_service.specs.Networks.{IsSame}
use Rattle.information_service.specs.Output.{IsReplyToQuery}

transfer-same : (a b : Network) → IsSame a b → (choice : Option Override) (u v : Event) → transfer b choice u v ≡ transfer a choice u v
unfolding transfer
transfer-same a b h choice u v = grind (arith, h.change, h.opts, h.wait)

edges-same : (a b : Network) → IsSame a b → (st : State) → edges b st ≡ edges a st
unfolding edges
edges-same a b h st = grind (arith, h.opts, transfer-same a b h)

-- the same event times
pub times-same : (a b : Network) → IsSame a b → (st : State) (k : Key) → event_time b st k ≡ event_time a st k
unfolding event_time
times-same a b h st k = grind (arith, edges-same a b h)

rank-same : (a b : Network) → IsSame a b → (st : State) (m : Message) → against_rank b st m ≡ against_rank a st m
rank-same a b h st m = grind (arith, h.opts, transfer-same a b h)

-- the same answers to messages
pub refusal-same : (a b : Network) → IsSame a b → (st : State) (m : Message) → refusal b st m ≡ refusal a st m
unfolding refusal
refusal-same a b h st m = grind (arith, h.stop, h.change, rank-same a b h)

-- the same events are changed
changed-same : (a b : Network) → IsSame a b → (st : State) (m : Message) → changed_count b st m ≡ changed_count a st m
unfolding changed
changed-same a b h st m = grind (arith, times-same a b h)

pub answer-same : (a b : Network) → IsSame a b → (st : State) (read : Result Message Refusal) → accepted_message b st read ≡ accepted_message a st read
answer-same a b h st read = grind (arith, refusal-same a b h)

-- the same messages are accepted
pub accepted-same : {X N : Type 0} (a b : Network) → IsSame a b → (reading : Reading X N) (st : State) (names : N) (xs : List X) → accepted b reading st names xs ≡ accepted a reading st names xs
accepted-same a b h reading st names [] = refl
accepted-same a b h reading st names (x ∷ xs) =
    grind (arith, answer-same a b h, λ (s : State). accepted-same a b h reading s (reading.known names x) xs, accepted-same a b h reading st names xs)

-- and the same names are known after them
pub known-same : {X N : Type 0} (a b : Network) → IsSame a b → (reading : Reading X N) (st : State) (names : N) (xs : List X) → known_after b reading st names xs ≡ known_after a reading st names xs
known-same a b h reading st names [] = refl
known-same a b h reading st names (x ∷ xs) =
    grind (arith, answer-same a b h, λ (s : State). known-same a b h reading s (reading.known names x) xs, known-same a b h reading st names xs)

pub reply-to-message-same : (a b : Network) → IsSame a b → (names : Names) (st : State) (count line : ℕ) (w : Wire) (read : Result Message Refusal)
    → reply_to_message b names st count line w read ≡ reply_to_message a names st count line w read
reply-to-message-same a b h names st count line w read = grind (arith, refusal-same a b h, changed-same a b h)

pub ride-same : (a b : Network) → IsSame a b → (st : State) (r : PlanRide) → IsRide b st r → IsRide a st r
ride-same a b h st r x = grind (arith, times-same a b h st)

goes-on-same : (a b : Network) → IsSame a b → (st : State) (p t : ℕ) (rides : List PlanRide) (to at : ℕ) → GoesOn b st p t rides to at → GoesOn a st p t rides to at
goes-on-same a b h st p t [] to at g = grind (arith, h.station)
goes-on-same a b h st p t (r ∷ rs) to at g = grind (arith, h.change, ride-same a b h st, goes-on-same a b h st r.alight_stop r.alight_time rs to at)

-- the same journeys
pub journey-same : (a b : Network) → IsSame a b → (st : State) (q : Query) (rides : List PlanRide) (at : ℕ) → IsJourney b st q rides at → IsJourney a st q rides at
journey-same a b h st q [] at j = grind (arith, h.station)
journey-same a b h st q (r ∷ rs) at j = grind (arith, h.station, h.change, ride-same a b h st, goes-on-same a b h st)

-- likeness turns round
pub same-back : (a b : Network) → IsSame a b → IsSame b a
same-back a b h = grind arith

pub query-same : (a b : Network) → IsSame a b → (st : State) (count line day : ℕ) (q : Query) (reply : Reply) → IsReplyToQuery b st count line day q reply → IsReplyToQuery a st count line day q reply
query-same a b h st count line day q reply is = grind (arith, journey-same a b h st q, journey-same b a (same-back a b h) st q)

pub resolved-same : (a b : Network) → IsSame a b → (st : State) (count line : ℕ) (asked : Result AskedQuery BadLine) (reply : Reply)
    → IsReplyToResolved b st count line asked reply → IsReplyToResolved a st count line asked reply
resolved-same a b h st count line (Ok q) reply is = query-same a b h st count line q.day q.query reply is
resolved-same a b h st count line (Err bad) reply is = is

pub reply-same : (a b : Network) → IsSame a b → (names : Names) (st : State) (count line : ℕ) (said : Result Spoken BadLine) (reply : Reply)
    → IsReply b names st count line said reply → IsReply a names st count line said reply
reply-same a b h names st count line (Ok (Asks q)) reply is = resolved-same a b h st count line (query_resolved names q) reply is
reply-same a b h names st count line said reply is = grind (arith, reply-to-message-same a b h names st count line)

text-same : (a b : Network) → IsSame a b → (names : Names) (st : State) (before : List Line) (x : Line) (bytes : List ℕ) → IsTextAfter b names st before x bytes → IsTextAfter a names st before x bytes
text-same a b h names st before x bytes t =
    let ws = messages_of before in
    grind (arith, accepted-same a b h by_names st names ws, known-same a b h by_names st names ws, reply-same a b h)

-- the same replies
pub replies-same : (a b : Network) → IsSame a b → (names : Names) (st : State) (before lines : List Line) (bytes : List ℕ)
    → AreReplies b names st before lines bytes → AreReplies a names st before lines bytes
replies-same a b h names st before [] bytes none = none
replies-same a b h names st before (x ∷ xs) bytes r = grind (arith, text-same a b h names st before x, replies-same a b h names st (before ++ x ∷ []) xs)

rows-same : (a b : Network) → IsSame a b → (names : Names) (st : State) (train count : ℕ) → rows_from names b st train count ≡ rows_from names a st train count
unfolding rows_from
rows-same a b h names st train zero = refl
rows-same a b h names st train (suc count) = grind (arith, times-same a b h st, rows-same a b h names st (train + 1) count)

pub table-same : (a b : Network) → IsSame a b → (names : Names) (st : State) → table b names st ≡ table a names st
unfolding table
table-same a b h names st = rw (rows-same a b h)

-- the same outputs
pub output-same : (a b : Network) → IsSame a b → (names : Names) (st : State) (lines : List Line) (bytes : List ℕ) → IsOutput b names st lines bytes → IsOutput a names st lines bytes
output-same a b h names st lines bytes o =
    let ws = messages_of lines in
    grind (arith, replies-same a b h names st [] lines, accepted-same a b h by_names st names ws, known-same a b h by_names st names ws, table-same a b h)
