-- What the publisher replied and what workers answered, as the replies of a window.
use Rattle.query_crew.proofs.Words.{◌≡◌, ◌≤◌, ◌<◌, ◌⊎◌, ℕ, ◌+◌, List, [], ◌++◌, length, take, Option, Some, Result, Ok, Err, refl, sym, ◌∙◌, ap, subst, arith, inl, inr, length-append, length-map, same_Some, Message, Network, State, after_messages, accepted, Reply, said_by, messages_of, by_names, accepted_of, names_after, IsReplyToQuery, IsReplyToResolved, ServiceState, service_after, BadLine, AskedQuery, Flush, WireQuery, query_resolved, Line, Names, TimetableState, ClientQuery, WindowLine, IsAnswerAt, StandsAt, after_lines, publisher_reply, ArePosted, IsReplyAt, shown_count, AreWindowReplies, window_line, window_lines}
use Rattle.std.proofs.lemmas.List.{take-map}
use Rattle.std.proofs.lemmas.Option.{slice_get-map}
use Rattle.std.specs.List.{slice_get}
use Rattle.std.specs.Option.{option_map}
use Rattle.delay_model.proofs.AfterLemmas.{accepted-are}
use Rattle.delay_report.specs.declared.replies.Reply.TheVariants.{Bad}
use Rattle.message_reader.specs.declared.wire.Line.{Line as Spoken}
use Rattle.message_reader.specs.declared.wire.Line.TheVariants.{Message as Says, Query as Asks}
use Rattle.query_crew.specs.declared.window_line.WindowLine.TheVariants as shown
use Rattle.query_crew.specs.Posting.{reply_to_bad}
use Rattle.query_crew.proofs.KnownNames.{asked-by-feed}
use Rattle.query_crew.proofs.PostedStates.{lines-lead, messages-same, reply-at, answer-is}
use Rattle.query_crew.proofs.ServedLemmas.{Later, accepted-more, accepted-rise, counts-by-place}

-- the reply that a line got: the publisher's, or an answer over the posted messages
abbrev pub IsCrewReply : Option TimetableState → List Message → ℕ → ℕ → List (Option Reply) → ℕ → WindowLine → Reply → Type 0
IsCrewReply o list least number own place line reply =
    (slice_get own place ≡ Some (Some reply))
    ⊎ ((q : ClientQuery) × (asked : AskedQuery) × (line ≡ shown.Query q) × (q.asked ≡ Ok asked) × IsAnswerAt o list least number asked reply)

-- the replies that the lines of a window got, whose counts do not fall for one client
pub record AreCrewReplies (o : Option TimetableState) (old new : List Message) (first : ℕ) (lines : List WindowLine) (own : List (Option Reply)) (replies : List Reply) : Type 0 where
  pub one_each : length replies ≡ length lines
  pub each : (place : ℕ) (x : WindowLine) (r : Reply) → slice_get lines place ≡ Some x → slice_get replies place ≡ Some r → IsCrewReply o new (length old) (first + (place + 1)) own place x r
  pub rise : (i j : ℕ) (q p : ClientQuery) (r s : Reply) (m n : ℕ) → i < j → slice_get lines i ≡ Some (shown.Query q) → slice_get lines j ≡ Some (shown.Query p)
      → slice_get replies i ≡ Some r → slice_get replies j ≡ Some s → shown_count r ≡ Some m → shown_count s ≡ Some n → q.client ≡ p.client → m ≤ n

-- ---- replies of the publisher

bad-reply : (number : ℕ) (asked : Result AskedQuery BadLine) (reply : Reply) (nw : Network) (st : State) (count : ℕ)
    → reply_to_bad number asked ≡ Some reply → IsReplyToResolved nw st count number asked reply
bad-reply number (Ok asked) reply nw st count is = absurd (cc)
bad-reply number (Err b) reply nw st count is = sym (same_Some (Bad number b) reply is)

publisher-is : (nw : Network) (names : Names) (st : State) (ns : Names) (before window : List Line) (place : ℕ) (said : Result Spoken BadLine) (reply : Reply) → ns ≡ names_after nw names st before
    → publisher_reply (service_after nw names st (before ++ take place window)) (length before + (place + 1)) (window_line ns said) ≡ Some reply → IsReplyAt nw names st before window place said reply
publisher-is nw names st ns before window place (Ok (Says w)) reply known is = sym (same_Some _ reply is)
publisher-is nw names st ns before window place (Ok Flush) reply known is = sym (same_Some _ reply is)
publisher-is nw names st ns before window place (Err b) reply known is = sym (same_Some _ reply is)
publisher-is nw names st ns before window place (Ok (Asks q)) reply known is =
    let count = length (accepted_of nw names st before) in
    let now = after_messages st (take count (accepted_of nw names st (before ++ window))) in
    let number = length before + (place + 1) in
    record {
      count = count;
      lower = omega arith;
      upper = accepted-rise nw names st before window;
      answers = subst (λ (a : Result AskedQuery BadLine). IsReplyToResolved nw now count number a reply) (ap (λ (n : Names). query_resolved n q) known ∙ asked-by-feed nw names st before q)
          (bad-reply number (query_resolved ns q) reply nw now count is);
    }

-- ---- answers over the posted messages

-- the message list behind the old one is that of the window
posted-later : (o : Option TimetableState) (nw : Network)
    (names : Names) (st : State) (ns : Names) (before window : List Line) (old new : List Message) (names_new : Names) (replies_old own : List (Option Reply))
    → ArePosted o (service_after nw names st before) (length before) (window_lines ns window) old new names_new replies_old own → new ≡ old ++ Later nw names st before window
posted-later o nw names st ns before window old new names_new replies_old own p =
    p.posted ∙ ap (λ ws. old ++ accepted nw by_names (after_messages st (accepted_of nw names st before)) (names_after nw names st before) ws) (messages-same ns window)

answered-is : (o : Option TimetableState) (nw : Network)
    (names : Names) (st : State) (ns : Names) (before window : List Line) (old : List Message) (place : ℕ) (q : WireQuery) (asked : AskedQuery) (reply : Reply)
    → StandsAt o old ns (service_after nw names st before)
    → query_resolved ns q ≡ Ok asked → IsAnswerAt o (old ++ Later nw names st before window) (length old) (length before + (place + 1)) asked reply
    → IsReplyAt nw names st before window place (Ok (Asks q)) reply
answered-is o nw names st ns before window old place q asked reply h resolves a =
    let acc = accepted_of nw names st before in
    let later = Later nw names st before window in
    let number = length before + (place + 1) in
    let count : length acc ≡ length old = ap (λ (s : ServiceState). s.count) h.is in
    let known : names_after nw names st before ≡ ns = ap (λ (s : ServiceState). s.names) h.is in
    let all = accepted-more nw names st before window in
    let accepts = accepted-are nw by_names (after_messages st acc) (names_after nw names st before) (messages_of window) in
    let answer = answer-is o old later acc h.timetable nw st number asked reply h.after (ap (λ (s : ServiceState). s.network) h.is) (ap (λ (s : ServiceState). s.state) h.is) count accepts a in
    let by_feed : Ok asked ≡ query_resolved names q = sym resolves ∙ ap (λ (n : Names). query_resolved n q) (sym known) ∙ asked-by-feed nw names st before q in
    record {
      count = a.count;
      lower = omega (arith, a.lower, count);
      upper = omega (arith, a.upper, count, ap length all, length-append acc later, length-append old later);
      answers = subst (λ (r : Result AskedQuery BadLine). IsReplyToResolved nw (after_messages st (take a.count (accepted_of nw names st (before ++ window)))) a.count number r reply) by_feed
          (subst (λ (ms : List Message). IsReplyToQuery nw (after_messages st (take a.count ms)) a.count number asked.day asked.query reply) (sym all) answer);
    }

query-shown : (ns : Names) (said : Result Spoken BadLine) (p : ClientQuery) (asked : AskedQuery)
    → window_line ns said ≡ shown.Query p → p.asked ≡ Ok asked → (q : WireQuery) × (said ≡ Ok (Asks q)) × (query_resolved ns q ≡ Ok asked)
query-shown ns (Ok (Says w)) p asked is ok = absurd (cc)
query-shown ns (Ok (Asks q)) p asked is ok = (q, refl, grind arith)
query-shown ns (Ok Flush) p asked is ok = absurd (cc)
query-shown ns (Err b) p asked is ok = absurd (cc)

-- ---- all replies

line-at : (ns : Names) (window : List Line) (place : ℕ) (x : Line) → slice_get window place ≡ Some x → slice_get (window_lines ns window) place ≡ Some (window_line ns (said_by x))
line-at ns window place x at =
    slice_get-map (λ (y : Line). window_line ns (said_by y)) window place ∙ ap (option_map (λ (y : Line). window_line ns (said_by y))) at

pub joined-replies : (o : Option TimetableState) (nw : Network) (names : Names)
    (st : State) (ns : Names) (before window : List Line) (old new : List Message) (names_new : Names) (own : List (Option Reply)) (replies : List Reply)
    → StandsAt o old ns (service_after nw names st before) → ArePosted o (service_after nw names st before) (length before) (window_lines ns window) old new names_new [] own
    → AreCrewReplies o old new (length before) (window_lines ns window) own replies → AreWindowReplies nw names st before window replies
joined-replies o nw names st ns before window old new names_new own replies h p c =
    let s = service_after nw names st before in
    let lines = window_lines ns window in
    let known : ns ≡ names_after nw names st before = ap (λ (t : ServiceState). t.names) (sym h.is) in
    let later = posted-later o nw names st ns before window old new names_new [] own p in
    record {
      one_each = c.one_each ∙ length-map window (λ (y : Line). window_line ns (said_by y));
      are = λ place x reply at_line at_reply.
          let number = length before + (place + 1) in
          let line = line-at ns window place x at_line in
          elim (c.each place (window_line ns (said_by x)) reply line at_reply) [
            | inl at_own ↦
                let there = sym (reply-at s (length before) place lines (window_line ns (said_by x)) line) ∙ ap (λ (rs : List (Option Reply)). slice_get rs place) (sym p.replied) ∙ at_own in
                let state = ap (after_lines s) (take-map (λ (y : Line). window_line ns (said_by y)) place window) ∙ lines-lead nw names st ns before (take place window) in
                publisher-is nw names st ns before window place (said_by x) reply known
                (ap (λ (t : ServiceState). publisher_reply t number (window_line ns (said_by x))) (sym state) ∙ same_Some _ (Some reply) there)
            | inr a ↦
                let q = query-shown ns (said_by x) a.0 a.1 a.2 a.3 in
                subst (λ (said : Result Spoken BadLine). IsReplyAt nw names st before window place said reply) (sym q.1)
                (answered-is o nw names st ns before window old place q.0 a.1 reply h q.2 (subst (λ (l : List Message). IsAnswerAt o l (length old) number a.1 reply) later a.4))
          ];
      counts = counts-by-place window replies (λ i j x y r t q u m n less at_x at_y at_r at_t asks asks_too shows shows_too same.
          c.rise i j (record { client = q.client; asked = query_resolved ns q }) (record { client = u.client; asked = query_resolved ns u }) r t m n less
          (line-at ns window i x at_x ∙ ap (λ (said : Result Spoken BadLine). Some (window_line ns said)) asks)
          (line-at ns window j y at_y ∙ ap (λ (said : Result Spoken BadLine). Some (window_line ns said)) asks_too) at_r at_t shows shows_too same);
    }

-- the board stands in the state after all lines
pub stands-after : (o : Option TimetableState) (nw : Network)
    (names : Names) (st : State) (ns : Names) (before window : List Line) (old new : List Message) (names_new : Names) (replies_old own : List (Option Reply))
    → ArePosted o (service_after nw names st before) (length before) (window_lines ns window) old new names_new replies_old own
    → StandsAt o new names_new (service_after nw names st (before ++ window))
stands-after o nw names st ns before window old new names_new replies_old own p =
    subst (StandsAt o new names_new) (lines-lead nw names st ns before window) p.stands
