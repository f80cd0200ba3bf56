-- One more line: the state of the service, the reply, and what was taken from the input.
use Rattle.information_service.proofs.Words.{◌≡◌, ◌≤◌, ℕ, ◌+◌, List, [], ◌∷◌, ◌++◌, is_none, true, false, Option, Some, None, Result, Ok, Err, refl, sym, ◌∙◌, ap, subst, length, arith, inl, inr, cases_Bool, IsAtEnd, Message, Refusal, Network, State, accepted_message, refusal, Reply, text_of_reply, Wire, BadLine, resolved, Line, Reader, GivesNext, Names, said_by, messages_of, names_with, by_names, reply_to_message, IsReply, IsReplyTo, IsTextAfter, ServiceState, after_line}
use Rattle.std.proofs.Common.{cond}
use Rattle.std.proofs.lemmas.List.Sums.{fold-append}
use Rattle.std.proofs.lemmas.List.Elements.{filter_map-append}
use Rattle.std.specs.List.{fold}
use Rattle.delay_model.specs.After.{after_accepted, after_line as after_message_line, Progress}
use Rattle.delay_model.proofs.WindowLemmas.{beginning, progress-all}
use Rattle.message_reader.specs.declared.wire.Line.{Line as Spoken}
use Rattle.message_reader.specs.declared.wire.Line.TheVariants.{Message as Says, Query as Asks, Flush}
use Rattle.message_reader.specs.Lines.{message_in}
use Rattle.mt_io.specs.Runs.{fresh}
use Rattle.mt_io.proofs.Gives.{consumes_more, open_ended}
use Rattle.mt_io.proofs.Runs.{goes_on}
use Rattle.mt_io.specs.Reader.{IsWithinBudget}
use Rattle.information_service.specs.Fronts.{IsTaken}
use Rattle.information_service.specs.Output.{reply_by_refusal}
use Rattle.information_service.specs.ServiceState.{after_said, after_message, after_answer, service_after}

-- the service by what lines leave
abbrev standing : Network → Progress Names → ServiceState
standing nw p = record { network = nw; state = p.state; count = p.count; names = p.names }

abbrev option_list : Option Wire → List Wire
option_list None = []
option_list (Some w) = w ∷ []

answer-leaves : (nw : Network) (p : Progress Names) (w : Wire) (m : Message) (o : Option Refusal)
    → after_answer (standing nw p) w m o ≡ standing nw (after_accepted p (names_with p.names w) (cond (is_none o) (Some m) None))
answer-leaves nw p w m None = refl
answer-leaves nw p w m (Some r) = refl

message-leaves : (nw : Network) (p : Progress Names) (w : Wire) (read : Result Message Refusal)
    → after_message (standing nw p) w read ≡ standing nw (after_accepted p (names_with p.names w) (accepted_message nw p.state read))
message-leaves nw p w (Ok m) = answer-leaves nw p w m (refusal nw p.state m)
message-leaves nw p w (Err r) = refl

said-leaves : (nw : Network) (p : Progress Names) (said : Result Spoken BadLine)
    → after_said (standing nw p) said ≡ standing nw (fold (after_message_line nw by_names) p (option_list (message_in said)))
said-leaves nw p (Ok (Says w)) = message-leaves nw p w (resolved p.names w)
said-leaves nw p (Ok (Asks q)) = refl
said-leaves nw p (Ok Flush) = refl
said-leaves nw p (Err b) = refl

last-message : (o : Option Wire) (x : Line) → message_in (said_by x) ≡ o → messages_of (x ∷ []) ≡ option_list o
last-message None x e = rw e refl
last-message (Some w) x e = rw e refl

lines-leave : (nw : Network) (names : Names) (st : State) (lines : List Line)
    → service_after nw names st lines ≡ standing nw (fold (after_message_line nw by_names) (beginning st names) (messages_of lines))
lines-leave nw names st lines = ap (standing nw) (sym (progress-all nw by_names st names (messages_of lines)))

-- one more line leaves the service as it is after all of them
pub line-after : (nw : Network) (names : Names) (st : State) (lines : List Line) (x : Line) → after_line (service_after nw names st lines) x ≡ service_after nw names st (lines ++ x ∷ [])
line-after nw names st lines x =
    let next : Progress Names → Wire → Progress Names = after_message_line nw by_names in
    let start : Progress Names = beginning st names in
    ap (λ (s : ServiceState). after_line s x) (lines-leave nw names st lines)
    ∙ said-leaves nw (fold next start (messages_of lines)) (said_by x)
    ∙ ap (λ (ws : List Wire). standing nw (fold next (fold next start (messages_of lines)) ws)) (sym (last-message (message_in (said_by x)) x refl))
    ∙ ap (standing nw) (sym (fold-append next start (messages_of lines) (messages_of (x ∷ []))))
    ∙ ap (λ (ws : List Wire). standing nw (fold next start ws)) (sym (filter_map-append (λ (y : Line). message_in (said_by y)) lines (x ∷ [])))
    ∙ sym (lines-leave nw names st (lines ++ x ∷ []))

-- the reply to a line that adds a name has no name in it
answer-text : (t : ServiceState) (line : ℕ) (w : Wire) (m : Message) (o : Option Refusal)
    → text_of_reply (after_answer t w m o).names (reply_by_refusal t.network t.names t.state t.count line w m o)
    ≡ text_of_reply t.names (reply_by_refusal t.network t.names t.state t.count line w m o)
unfolding text_of_reply
answer-text t line w m None = refl
answer-text t line w m (Some r) = refl

message-text : (t : ServiceState) (line : ℕ) (w : Wire) (read : Result Message Refusal)
    → text_of_reply (after_message t w read).names (reply_to_message t.network t.names t.state t.count line w read)
    ≡ text_of_reply t.names (reply_to_message t.network t.names t.state t.count line w read)
message-text t line w (Ok m) = answer-text t line w m (refusal t.network t.state m)
message-text t line w (Err r) = refl

said-text : (t : ServiceState) (line : ℕ) (said : Result Spoken BadLine) (reply : Reply)
    → IsReply t.network t.names t.state t.count line said reply → text_of_reply (after_said t said).names reply ≡ text_of_reply t.names reply
said-text t line (Ok (Says w)) reply is =
    ap (text_of_reply (after_message t w (resolved t.names w)).names) is ∙ message-text t line w (resolved t.names w) ∙ ap (text_of_reply t.names) (sym is)
said-text t line (Ok (Asks q)) reply is = refl
said-text t line (Ok Flush) reply is = refl
said-text t line (Err b) reply is = refl

-- what follows these lines in a service that was in this state before them
abbrev pub IsTextBehind : ServiceState → List Line → Line → List ℕ → Type 0
IsTextBehind first = IsTextAfter first.network first.names first.state

-- the reply to one line more, by the lines before it
pub reply_is : (first now next : ServiceState) (lines : List Line) (x : Line) (number : ℕ) (reply : Reply) → now ≡ service_after first.network first.names first.state lines → number ≡ length lines + 1
    → IsReplyTo now number x reply → next ≡ after_line now x → IsTextBehind first lines x (text_of_reply next.names reply)
reply_is first now next lines x number reply stood is_number is is_next =
    record {
      reply = reply;
      is_reply = subst (λ (n : ℕ). IsReplyTo (service_after first.network first.names first.state lines) n x reply) is_number (subst (λ (t : ServiceState). IsReplyTo t number x reply) stood is);
      text = ap (λ (t : ServiceState). text_of_reply t.names reply) is_next ∙ said-text now number (said_by x) reply is ∙ ap (λ (t : ServiceState). text_of_reply t.names reply) stood;
    }

-- a call takes more bytes and lines. The source is at its end where the end was read
pub taken-more : {old new : Reader} {left left_old left_new : Option (List ℕ)} {bytes : List ℕ} {lines more : List Line} → IsTaken old left left_old bytes lines
    → (old.ended ≡ true → left_new ≡ left_old) → GivesNext old new left_old left_new more → (all : List ℕ) × IsTaken new left left_new all (lines ++ more)
taken-more {old = old} {new = new} {left = left} {left_old = left_old} {left_new = left_new} {bytes = bytes} {lines = lines} {more = more} taken same gives = (
  bytes ++ gives.0,
  record {
    source = consumes_more left left_old left_new bytes gives.0 taken.source gives.1.source;
    lines_so_far = goes_on bytes gives.0 lines more old new left_old left_new taken.lines_so_far gives.1;
    end = λ ended. elim (cases_Bool old.ended) [ inl was ↦ subst IsAtEnd (sym (same was)) (taken.end was) | inr not_yet ↦ gives.1.end not_yet ended ];
    within = gives.1.within taken.within;
  },
)

-- a new reader is within its budget
pub within_new : (budget : ℕ) → IsWithinBudget (fresh budget)
within_new budget = record { taken = omega arith; ended = λ is. open_ended false refl is }

-- the count of accepted messages grows by one at most
few-answer : (t : ServiceState) (w : Wire) (m : Message) (o : Option Refusal) → (after_answer t w m o).count ≤ t.count + 1
few-answer t w m None = omega arith
few-answer t w m (Some r) = omega arith

pub few-message : (t : ServiceState) (w : Wire) (read : Result Message Refusal) → (after_message t w read).count ≤ t.count + 1
few-message t w (Ok m) = few-answer t w m (refusal t.network t.state m)
few-message t w (Err r) = omega arith

few-said : (t : ServiceState) (said : Result Spoken BadLine) → (after_said t said).count ≤ t.count + 1
few-said t (Ok (Says w)) = few-message t w (resolved t.names w)
few-said t (Ok (Asks q)) = omega arith
few-said t (Ok Flush) = omega arith
few-said t (Err b) = omega arith

pub counts-one : (t next : ServiceState) (x : Line) → next ≡ after_line t x → next.count ≤ t.count + 1
counts-one t next x is = omega (arith, ap (λ (r : ServiceState). r.count) is, few-said t (said_by x))
