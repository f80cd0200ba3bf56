-- The lines that the publisher took, one more at a time.
use Rattle.query_crew.proofs.Words.{◌≡◌, ◌≤◌, ℕ, ◌+◌, List, [], ◌∷◌, ◌++◌, length, drop, Option, Some, None, Result, Ok, Err, refl, sym, ◌∙◌, ap, subst, arith, append_assoc, length-append, append-nil, filter_map, IsPrefix, Message, Refusal, accepted, refusal, Reply, by_names, ServiceState, Wire, resolved, Names, TimetableState, WindowLine, StandsAt, after_shown, after_lines, message_shown, publisher_replies, IsTaken, ArePosted}
use Rattle.information_service.specs.ServiceState.{after_message}
use Rattle.query_crew.specs.declared.window_line.WindowLine.TheVariants as shown
use Rattle.query_crew.specs.Posting.{accepted_in}

-- what is a beginning of a beginning
pub prefix-trans : {M : Type 0} (xs ys zs : List M) → IsPrefix xs ys → IsPrefix ys zs → IsPrefix xs zs
prefix-trans xs ys zs h k = (h.0 ++ k.0, sym (append_assoc xs h.0 k.0) ∙ ap (λ l. l ++ k.0) h.1 ∙ k.1)

-- ---- the accepted messages of one line and of those behind it

accepted-by : (s : ServiceState) (w : Wire) (ws : List Wire) (m : Message) (o : Option Refusal) → resolved s.names w ≡ Ok m → refusal s.network s.state m ≡ o
    → (let t = after_message s w (resolved s.names w) in accepted s.network by_names s.state s.names (w ∷ ws)
    ≡ accepted s.network by_names s.state s.names (w ∷ []) ++ accepted t.network by_names t.state t.names ws)
accepted-by s w ws m None read accepts = rw (read, accepts) refl
accepted-by s w ws m (Some r) read refuses = rw (read, refuses) refl

accepted-read : (s : ServiceState) (w : Wire) (ws : List Wire) (read : Result Message Refusal) → resolved s.names w ≡ read
    → (let t = after_message s w (resolved s.names w) in accepted s.network by_names s.state s.names (w ∷ ws)
    ≡ accepted s.network by_names s.state s.names (w ∷ []) ++ accepted t.network by_names t.state t.names ws)
accepted-read s w ws (Err r) is = rw is refl
accepted-read s w ws (Ok m) is = accepted-by s w ws m (refusal s.network s.state m) is refl

pub accepted-cons : (s : ServiceState) (x : WindowLine) (xs : List WindowLine) → accepted_in s (x ∷ xs) ≡ accepted_in s (x ∷ []) ++ accepted_in (after_shown s x) xs
accepted-cons s (shown.Message w) xs = accepted-read s w (filter_map message_shown xs) (resolved s.names w) refl
accepted-cons s (shown.Query q) xs = refl
accepted-cons s shown.Flush xs = refl
accepted-cons s (shown.Bad b) xs = refl

-- one line has one accepted message at most
one-by : (s : ServiceState) (w : Wire) (m : Message) (o : Option Refusal)
    → resolved s.names w ≡ Ok m → refusal s.network s.state m ≡ o → length (accepted s.network by_names s.state s.names (w ∷ [])) ≤ 1
one-by s w m None read accepts = rw (read, accepts) (omega arith)
one-by s w m (Some r) read refuses = rw (read, refuses) (omega arith)

one-read : (s : ServiceState) (w : Wire) (read : Result Message Refusal) → resolved s.names w ≡ read → length (accepted s.network by_names s.state s.names (w ∷ [])) ≤ 1
one-read s w (Err r) is = rw is (omega arith)
one-read s w (Ok m) is = one-by s w m (refusal s.network s.state m) is refl

pub one-message : (s : ServiceState) (x : WindowLine) → length (accepted_in s (x ∷ [])) ≤ 1
one-message s (shown.Message w) = one-read s w (resolved s.names w) refl
one-message s (shown.Query q) = omega arith
one-message s shown.Flush = omega arith
one-message s (shown.Bad b) = omega arith

-- so many messages are posted at most
pub few-more : {o : Option TimetableState} {s : ServiceState} {number : ℕ} {old new : List Message} {names : Names} {reply : Option Reply} (x : WindowLine)
    → IsTaken o s number x old new names reply → length new ≤ length old + 1
few-more {s = s} {old = old} x one =
    omega (arith, ap length one.posted, length-append old (accepted_in s (x ∷ [])), one-message s x)

-- ---- the first lines

-- the publisher took the first `i` lines, and stands at `now`: the others lead to what all lead to
pub record HasTaken (o : Option TimetableState) (s now : ServiceState)
    (first i : ℕ) (lines : List WindowLine) (old list : List Message) (names : Names) (replies_old replies : List (Option Reply)) : Type 0 where
  pub stands : StandsAt o list names now
  pub after : after_lines now (drop i lines) ≡ after_lines s lines
  pub posted : list ++ accepted_in now (drop i lines) ≡ old ++ accepted_in s lines
  pub replied : replies ++ publisher_replies now (first + i) (drop i lines) ≡ replies_old ++ publisher_replies s first lines

pub takes-none : (o : Option TimetableState) (s : ServiceState) (first : ℕ) (lines : List WindowLine)
    (old : List Message) (names : Names) (replies : List (Option Reply)) → StandsAt o old names s → HasTaken o s s first 0 lines old old names replies replies
takes-none o s first lines old names replies h =
    let none : first + 0 ≡ first = omega arith in
    record { stands = h; after = refl; posted = refl; replied = ap (λ (n : ℕ). replies ++ publisher_replies s n lines) none }

pub takes-more : {o : Option TimetableState} {s now : ServiceState} {first i : ℕ} {lines : List WindowLine}
    {old list new : List Message} {names names_new : Names} {replies_old replies : List (Option Reply)} (x : WindowLine) (reply : Option Reply)
    → HasTaken o s now first i lines old list names replies_old replies → drop i lines ≡ x ∷ drop (i + 1) lines → IsTaken o now (first + i + 1) x list new names_new reply
    → HasTaken o s (after_shown now x) first (i + 1) lines old new names_new replies_old (replies ++ reply ∷ [])
takes-more {s = s} {now = now} {first = first} {i = i} {lines = lines} {old = old} {list = list} {replies_old = replies_old} {replies = replies} x reply h e one =
    let rest = drop (i + 1) lines in
    let next = after_shown now x in
    let number : first + (i + 1) ≡ first + i + 1 = omega arith in
    record {
      stands = one.stands;
      after = rw e at h.after;
      posted = ap (λ (l : List Message). l ++ accepted_in next rest) one.posted
          ∙ append_assoc list (accepted_in now (x ∷ [])) (accepted_in next rest)
          ∙ ap (λ (l : List Message). list ++ l) (sym (accepted-cons now x rest))
          ∙ ap (λ (l : List WindowLine). list ++ accepted_in now l) (sym e)
          ∙ h.posted;
      replied = ap (λ (n : ℕ). (replies ++ reply ∷ []) ++ publisher_replies next n rest) number
          ∙ append_assoc replies (reply ∷ []) (publisher_replies next (first + i + 1) rest)
          ∙ ap (λ (r : Option Reply). replies ++ r ∷ publisher_replies next (first + i + 1) rest) one.replied
          ∙ ap (λ (l : List WindowLine). replies ++ publisher_replies now (first + i) l) (sym e)
          ∙ h.replied;
    }

-- all lines were taken
pub takes-all : {o : Option TimetableState} {s now : ServiceState} {first i : ℕ} {lines : List WindowLine}
    {old list : List Message} {names : Names} {replies_old replies : List (Option Reply)} → HasTaken o s now first i lines old list names replies_old replies
    → drop i lines ≡ [] → ArePosted o s first lines old list names replies_old replies
takes-all {o = o} {s = s} {now = now} {lines = lines} {list = list} {names = names} {replies = replies} h e =
    let after : now ≡ after_lines s lines = rw e at h.after in
    record {
      stands = subst (StandsAt o list names) after h.stands;
      posted = sym (append-nil list) ∙ (rw e at h.posted);
      replied = sym (append-nil replies) ∙ (rw e at h.replied);
    }
