-- What the publisher and the workers have for the lines of a window, as the replies of the crew.
use Rattle.query_crew.proofs.Words.{◌≡◌, ◌≤◌, ◌<◌, ◌%◌, ℕ, ◌+◌, List, [], ◌∷◌, ◌++◌, length, slice_get, take, true, Option, Some, None, IsSome, Result, Ok, Err, IfOk, refl, sym, ◌∙◌, ap, subst, inl, inr, arith, same_Some, slice_get-get_or, slice_get_within, sum, Message, Reply, ServiceState, BadLine, AskedQuery, TimetableState, ClientQuery, WindowLine, answer_for, chosen, reply_for, AreJoined, IsAnswerAt, after_lines, after_shown, publisher_reply, publisher_replies, shown_count, asked_of, IsEntry, HasAnsweredAll, Network, State, service_after, Line, Names, StandsAt, ArePosted, AreWindowReplies, window_lines}
use Rattle.std.proofs.Common.{◌==◌, get_or}
use Rattle.std.proofs.lemmas.Option.{get_or_from_slice_get}
use Rattle.query_crew.specs.declared.window_line.WindowLine.TheVariants as shown
use Rattle.query_crew.proofs.Joined.{IsCrewReply, AreCrewReplies, joined-replies, stands-after}
use Rattle.query_crew.proofs.PostedStates.{reply-at}

pub replies-length : (s : ServiceState) (first : ℕ) (lines : List WindowLine) → length (publisher_replies s first lines) ≡ length lines
replies-length s first [] = refl
replies-length s first (x ∷ xs) = omega (arith, replies-length (after_shown s x) (first + 1) xs)

own-left : (own : List (Option Reply)) (place : ℕ) (rr r : Reply) (answer : Option Reply)
    → slice_get own place ≡ Some (Some rr) → Some r ≡ chosen (get_or own place None) answer → slice_get own place ≡ Some (Some r)
own-left own place rr r answer at j =
    let e = get_or_from_slice_get own place (Some rr) None at in
    at ∙ ap (λ (z : Option Reply). Some z) (sym (rw e at j))

own-right : (own : List (Option Reply)) (place : ℕ) (r : Reply) (answer : Option Reply) → slice_get own place ≡ Some None → Some r ≡ chosen (get_or own place None) answer → Some r ≡ answer
own-right own place r answer at j =
    let e = get_or_from_slice_get own place None None at in
    rw e at j

module _ {o : Option TimetableState} {list : List Message} {least first workers : ℕ} {lines : List WindowLine} {answers : ℕ → List (Option Reply)}
    (some : 1 ≤ workers) (all : (k : ℕ) → k < workers → HasAnsweredAll o list least first k workers lines (answers k)) where
  -- the worker of a client has an answer to its query
  answer-there : (place : ℕ) (q : ClientQuery) (asked : AskedQuery) → slice_get lines place ≡ Some (shown.Query q) → q.asked ≡ Ok asked
      → (r : Reply) × (slice_get (answers (sum q.client % workers)) place ≡ Some (Some r)) × IsAnswerAt o list least (first + (place + 1)) asked r
  answer-there place q asked at ok =
      let me = sum q.client % workers in
      let less : me < workers = omega arith in
      let h = all me less in
      let xs = answers me in
      let within : place < length xs = omega (arith, h.all, slice_get_within lines place (shown.Query q) at) in
      let there = slice_get-get_or xs place None within in
      let is = h.answered.each place (shown.Query q) (get_or xs place None) at there in
      let self : (me == me) ≡ true = grind arith in
      let mine : asked_of me workers (shown.Query q) ≡ Some asked = rw (self, ok) refl in
      let answer = subst (λ (a : Option AskedQuery). IsEntry o list least (first + (place + 1)) a (get_or xs place None)) mine is in
      (answer.0, there ∙ ap (λ (z : Option Reply). Some z) answer.1, answer.2)

  -- ---- each line has a reply

  covers-query : (t : ServiceState) (number place : ℕ) (q : ClientQuery) (asked : Result AskedQuery BadLine) (entry : Option Reply)
      → q.asked ≡ asked → slice_get lines place ≡ Some (shown.Query q) → entry ≡ publisher_reply t number (shown.Query q)
      → IsSome (chosen entry (answer_for answers workers (shown.Query q) place))
  covers-query t number place q (Err b) entry is at e = rw (e, is) refl
  covers-query t number place q (Ok asked) entry is at e =
      let a = answer-there place q asked at is in
      let got = get_or_from_slice_get (answers (sum q.client % workers)) place (Some a.0) None a.1 in
      rw (e, is, got) refl

  covers : (t : ServiceState) (number place : ℕ) (x : WindowLine) (entry : Option Reply)
      → slice_get lines place ≡ Some x → entry ≡ publisher_reply t number x → IsSome (chosen entry (answer_for answers workers x place))
  covers t number place (shown.Message w) entry at e = rw e refl
  covers t number place (shown.Query q) entry at e = covers-query t number place q q.asked entry refl at e
  covers t number place shown.Flush entry at e = rw e refl
  covers t number place (shown.Bad b) entry at e = rw e refl

  pub all-covered : (s : ServiceState) (own : List (Option Reply)) (place : ℕ) (x : WindowLine)
      → own ≡ publisher_replies s first lines → slice_get lines place ≡ Some x → IsSome (reply_for own answers workers x place)
  all-covered s own place x is at =
      let t = after_lines s (take place lines) in
      let there = ap (λ (rs : List (Option Reply)). slice_get rs place) is ∙ reply-at s first place lines x at in
      covers t (first + (place + 1)) place x (get_or own place None) at (get_or_from_slice_get own place (publisher_reply t (first + (place + 1)) x) None there)

  -- ---- the replies are those of the crew

  query-reply : (t : ServiceState) (number place : ℕ) (q : ClientQuery) (asked : Result AskedQuery BadLine) (own : List (Option Reply)) (r : Reply)
      → q.asked ≡ asked → slice_get lines place ≡ Some (shown.Query q)
      → slice_get own place ≡ Some (publisher_reply t number (shown.Query q))
      → Some r ≡ reply_for own answers workers (shown.Query q) place → IsCrewReply o list least (first + (place + 1)) own place (shown.Query q) r
  query-reply t number place q (Err b) own r is at there j = inl (own-left own place _ r _ (rw is at there) j)
  query-reply t number place q (Ok asked) own r is at there j =
      let a = answer-there place q asked at is in
      let got = get_or_from_slice_get (answers (sum q.client % workers)) place (Some a.0) None a.1 in
      let same = same_Some r a.0 (own-right own place r _ (rw is at there) j ∙ got) in
      inr (q, asked, refl, is, subst (IsAnswerAt o list least (first + (place + 1)) asked) (sym same) a.2)

  line-reply : (t : ServiceState) (number place : ℕ) (x : WindowLine) (own : List (Option Reply)) (r : Reply) → slice_get lines place ≡ Some x → slice_get own place ≡ Some (publisher_reply t number x)
      → Some r ≡ reply_for own answers workers x place → IsCrewReply o list least (first + (place + 1)) own place x r
  line-reply t number place (shown.Message w) own r at there j = inl (own-left own place _ r _ there j)
  line-reply t number place (shown.Query q) own r at there j = query-reply t number place q q.asked own r refl at there j
  line-reply t number place shown.Flush own r at there j = inl (own-left own place _ r _ there j)
  line-reply t number place (shown.Bad b) own r at there j = inl (own-left own place _ r _ there j)

  -- a reply that shows a count is the answer of the worker
  shows-entry : (t : ServiceState) (number place m : ℕ) (q : ClientQuery) (asked : Result AskedQuery BadLine) (own : List (Option Reply)) (r : Reply)
      → q.asked ≡ asked → slice_get lines place ≡ Some (shown.Query q)
      → slice_get own place ≡ Some (publisher_reply t number (shown.Query q)) → Some r ≡ reply_for own answers workers (shown.Query q) place
      → shown_count r ≡ Some m → slice_get (answers (sum q.client % workers)) place ≡ Some (Some r)
  shows-entry t number place m q (Err b) own r is at there j shows =
      let bad = same_Some _ _ (sym (rw is at there) ∙ own-left own place _ r _ (rw is at there) j) in
      let none = same_Some _ r bad in
      absurd (grind (arith, shows, none))
  shows-entry t number place m q (Ok asked) own r is at there j shows =
      let a = answer-there place q asked at is in
      let got = get_or_from_slice_get (answers (sum q.client % workers)) place (Some a.0) None a.1 in
      a.1 ∙ ap (λ (z : Option Reply). Some z) (sym (own-right own place r _ (rw is at there) j ∙ got))

  pub joined-crew : (s : ServiceState) (own : List (Option Reply)) (old : List Message) (replies : List Reply)
      → least ≡ length old → own ≡ publisher_replies s first lines → length replies ≡ length lines → AreJoined lines own answers workers replies
      → AreCrewReplies o old list first lines own replies
  joined-crew s own old replies same is count joined =
      let there : (place : ℕ) (x : WindowLine) → slice_get lines place ≡ Some x → slice_get own place ≡ Some (publisher_reply (after_lines s (take place lines)) (first + (place + 1)) x) =
      λ place x at. ap (λ (rs : List (Option Reply)). slice_get rs place) is ∙ reply-at s first place lines x at in
      record {
        one_each = count;
        each = λ place x r at at_reply.
            subst (λ (l : ℕ). IsCrewReply o list l (first + (place + 1)) own place x r) same
            (line-reply (after_lines s (take place lines)) (first + (place + 1)) place x own r at (there place x at) (joined.each place x r at at_reply));
        rise = λ i j q p r u m n less at_q at_p at_r at_u shows shows_too client.
            let one = shows-entry (after_lines s (take i lines)) (first + (i + 1)) i m q q.asked own r refl at_q (there i (shown.Query q) at_q) (joined.each i (shown.Query q) r at_q at_r) shows in
            let two = shows-entry (after_lines s (take j lines)) (first + (j + 1)) j n p p.asked own u refl at_p (there j (shown.Query p) at_p) (joined.each j (shown.Query p) u at_p at_u) shows_too in
            let me = sum q.client % workers in
            let below : me < workers = omega arith in
            let h = all me below in
            h.answered.rise i j r u m n less one (subst (λ (c : List ℕ). slice_get (answers (sum c % workers)) j ≡ Some (Some u)) (sym client) two) shows shows_too;
      }

-- two facts on a result, as one
pub both : {A E : Type 0} {P Q R : A → Type 0} (r : Result A E) → IfOk r P → IfOk r Q → ((x : A) → P x → Q x → R x) → IfOk r R
both (Ok x) p q h = h x p q
both (Err e) p q h = tt

-- the publisher's replies are all that was put behind none
pub own-replies : {o : Option TimetableState} {s : ServiceState} {first : ℕ} {lines : List WindowLine} {old new : List Message} {names : Names}
    {before own : List (Option Reply)} → before ≡ [] → ArePosted o s first lines old new names before own → own ≡ publisher_replies s first lines
own-replies {s = s} {first = first} {lines = lines} none p = p.replied ∙ ap (λ xs. xs ++ publisher_replies s first lines) none

pub window-answered : {o : Option TimetableState}
    {old new : List Message} {first workers : ℕ} {lines : List WindowLine} {answers : ℕ → List (Option Reply)} {names_new : Names}
    {none own : List (Option Reply)} {replies : List Reply} (nw : Network) (names : Names) (st : State) (ns : Names) (before window : List Line)
    → 1 ≤ workers → ((k : ℕ) → k < workers → HasAnsweredAll o new (length old) first k workers lines (answers k))
    → StandsAt o old ns (service_after nw names st before) → first ≡ length before → lines ≡ window_lines ns window → none ≡ []
    → ArePosted o (service_after nw names st before) first lines old new names_new none own
    → length replies ≡ length lines → AreJoined lines own answers workers replies → AreWindowReplies nw names st before window replies
window-answered {o = o} {old = old} {new = new} {first = first} {lines = lines}
    {names_new = names_new} {none = none} {own = own} {replies = replies} nw names st ns before window some all h first_is lines_are none_is p count joined =
    let s = service_after nw names st before in
    let crew = joined-crew some all s own old replies refl (own-replies none_is p) count joined in
    let crew_there = subst (λ (ls : List WindowLine). AreCrewReplies o old new (length before) ls own replies) lines_are
    (subst (λ (n : ℕ). AreCrewReplies o old new n lines own replies) first_is crew) in
    let posted_first = subst (λ (n : ℕ). ArePosted o s n lines old new names_new none own) first_is p in
    let posted_lines = subst (λ (ls : List WindowLine). ArePosted o s (length before) ls old new names_new none own) lines_are posted_first in
    let posted = subst (λ (xs : List (Option Reply)). ArePosted o s (length before) (window_lines ns window) old new names_new xs own) none_is posted_lines in
    joined-replies o nw names st ns before window old new names_new own replies h posted crew_there

pub stands-answered : {o : Option TimetableState} {old new : List Message} {first : ℕ} {lines : List WindowLine}
    {names_new : Names} {none own : List (Option Reply)} (nw : Network) (names : Names) (st : State) (ns : Names) (before window : List Line)
    → first ≡ length before → lines ≡ window_lines ns window → ArePosted o (service_after nw names st before) first lines old new names_new none own
    → StandsAt o new names_new (service_after nw names st (before ++ window))
stands-answered {o = o} {old = old} {new = new} {first = first} {lines = lines} {names_new = names_new} {none = none} {own = own} nw names st ns before window first_is lines_are p =
    let s = service_after nw names st before in
    let posted_first = subst (λ (n : ℕ). ArePosted o s n lines old new names_new none own) first_is p in
    let posted = subst (λ (ls : List WindowLine). ArePosted o s (length before) ls old new names_new none own) lines_are posted_first in
    stands-after o nw names st ns before window old new names_new none own posted
