-- Answers of a worker, one line more at a time.
use Rattle.query_crew.proofs.Words.{◌≡◌, ℕ, zero, suc, ◌+◌, ◌<◌, ◌≤◌, List, [], ◌∷◌, ◌++◌, length, take, Option, Some, None, Result, Ok, Err, refl, sym, ap, subst, ◌∙◌, ◌⊎◌, ⊎_elim, inl, inr, arith, length-append, slice_get, IfOk, Bool, true, false, is_none, fold, append-nil, slice_get-get_or, same_Some, take-append-le, IsPrefix, Message, Reply, AskedQuery, Network, refusal, IsReplyToQuery, TimetableState, taken, stepped, WindowLine, HasSearchRoom, IsRoomFor, IsAnswerAt, timetable_after, shown_count, asked_of, IsEntry, HasAnswered, HasAnsweredAll}
use Rattle.std.proofs.Common.{get_or, if◌then◌else◌, take_all}
use Rattle.query_crew.specs.Working.{IsNewEntry, IsPushed, CountsRise}
use Rattle.query_crew.proofs.ServedLemmas.{count-of}
use Rattle.conn_scan.specs.ScratchState.{ScratchRoom}
use Rattle.snapshot_board.specs.Knowledge.{Knowledge}
use Rattle.query_crew.specs.Working.{HasWorked, IsWithin}

pub longer : {X : Type 0} (list later : List X) → IsPrefix list later → length list ≤ length later
longer list later h = omega (arith, sym (ap length h.1), length-append list h.0)

-- what stands in a list with one more at its end
pub at-end : {X : Type 0} (xs : List X) (x y : X) (i : ℕ) → slice_get (xs ++ x ∷ []) i ≡ Some y → (slice_get xs i ≡ Some y) ⊎ ((i ≡ length xs) × (x ≡ y))
at-end [] x y zero e = inr (refl, cc e)
at-end [] x y (suc i) e = absurd cc
at-end (z ∷ xs) x y zero e = inl e
at-end (z ∷ xs) x y (suc i) e = ⊎_elim (λ (h : slice_get xs i ≡ Some y). inl h) (λ (h : (i ≡ length xs) × (x ≡ y)). inr (ap suc h.0, h.1)) (at-end xs x y i e)

pub inside : {X : Type 0} (xs : List X) (i : ℕ) (y : X) → slice_get xs i ≡ Some y → i < length xs
inside [] i y e = absurd cc
inside (x ∷ xs) zero y e = omega arith
inside (x ∷ xs) (suc i) y e = omega (arith, inside xs i y e)

pub still-answer : (o : Option TimetableState) (list later : List Message) (least number : ℕ) (asked : AskedQuery) (r : Reply)
    → IsPrefix list later → IsAnswerAt o list least number asked r → IsAnswerAt o later least number asked r
still-answer o list later least number asked r pre a = record {
  count = a.count;
  lower = a.lower;
  upper = omega (arith, a.upper, longer list later pre);
  shown = a.shown;
  after = ap (timetable_after o) (ap (take a.count) (sym pre.1) ∙ take-append-le a.count list pre.0 a.upper) ∙ a.after;
  answers = a.answers;
}

pub lower-answer : (o : Option TimetableState) (list : List Message) (least less number : ℕ) (asked : AskedQuery) (r : Reply)
    → less ≤ least → IsAnswerAt o list least number asked r → IsAnswerAt o list less number asked r
lower-answer o list least less number asked r le a = record {
  count = a.count;
  lower = omega (arith, a.lower, le);
  upper = a.upper;
  shown = a.shown;
  after = a.after;
  answers = a.answers;
}

pub still : (o : Option TimetableState) (list later : List Message) (least number : ℕ) (asked : Option AskedQuery) (e : Option Reply)
    → IsPrefix list later → IsEntry o list least number asked e → IsEntry o later least number asked e
still o list later least number None e pre h = h
still o list later least number (Some asked) e pre h = (h.0, h.1, still-answer o list later least number asked h.0 pre h.2)

pub lower : (o : Option TimetableState) (list : List Message) (least less number : ℕ) (asked : Option AskedQuery) (e : Option Reply)
    → less ≤ least → IsEntry o list least number asked e → IsEntry o list less number asked e
lower o list least less number None e le h = h
lower o list least less number (Some asked) e le h = (h.0, h.1, lower-answer o list least less number asked h.0 le h.2)

-- the count that an answer shows lies between the least and the length of the list
pub answer-count : (o : Option TimetableState) (list : List Message) (least number m : ℕ) (asked : AskedQuery) (r : Reply)
    → IsAnswerAt o list least number asked r → shown_count r ≡ Some m → (least ≤ m) × (m ≤ length list)
answer-count o list least number m asked r a shows =
    let same : a.count ≡ m = count-of a.shown.network a.shown.state a.count number m (Ok asked) r a.answers shows in
    (omega (arith, same, a.lower), omega (arith, same, a.upper))

pub entry-count : (o : Option TimetableState) (list : List Message) (least number m : ℕ) (asked : Option AskedQuery) (r : Reply)
    → IsEntry o list least number asked (Some r) → shown_count r ≡ Some m → (least ≤ m) × (m ≤ length list)
entry-count o list least number m None r h shows = absurd cc
entry-count o list least number m (Some asked) r h shows = answer-count o list least number m asked h.0 h.2 (subst (λ (s : Reply). shown_count s ≡ Some m) (same_Some r h.0 h.1) shows)

-- a new entry is an entry, and shows the length of the list
fresh : (o : Option TimetableState) (note learnt list : List Message) (number : ℕ) (asked : Option AskedQuery) (e : Option Reply)
    → IsPrefix note learnt → IsNewEntry o learnt list number asked e → IsEntry o list (length note) number asked e
fresh o note learnt list number None e pre h = h
fresh o note learnt list number (Some asked) e pre h =
    (h.0, h.1, lower-answer o list (length list) (length note) number asked h.0 (omega (arith, longer note learnt pre, longer learnt list h.3)) h.2)

fresh-count : (o : Option TimetableState) (learnt list : List Message) (number n : ℕ) (asked : Option AskedQuery) (e : Option Reply) (s : Reply)
    → IsNewEntry o learnt list number asked e → e ≡ Some s → shown_count s ≡ Some n → length list ≤ n
fresh-count o learnt list number n None e s h is shows = absurd cc
fresh-count o learnt list number n (Some asked) e s h is shows =
    (answer-count o list (length list) number n asked h.0 h.2 (subst (λ (r : Reply). shown_count r ≡ Some n) (same_Some s h.0 (sym is ∙ h.1)) shows)).0

rise-more : (xs : List (Option Reply)) (e : Option Reply) (c : ℕ) → CountsRise xs → ((i : ℕ) (r : Reply) (m : ℕ) → slice_get xs i ≡ Some (Some r) → shown_count r ≡ Some m → m ≤ c)
    → ((s : Reply) (n : ℕ) → e ≡ Some s → shown_count s ≡ Some n → c ≤ n) → CountsRise (xs ++ e ∷ [])
rise-more xs e c old upper new i j r s m n less at_i at_j shows_i shows_j =
    ⊎_elim
    (λ (h : slice_get xs j ≡ Some (Some s)). ⊎_elim
    (λ (k : slice_get xs i ≡ Some (Some r)). old i j r s m n less k h shows_i shows_j)
    (λ (k : (i ≡ length xs) × (e ≡ Some r)). absurd (omega (arith, k.0, less, inside xs j (Some s) h)))
    (at-end xs e (Some r) i at_i))
    (λ (h : (j ≡ length xs) × (e ≡ Some s)). ⊎_elim
    (λ (k : slice_get xs i ≡ Some (Some r)). omega (arith, upper i r m k shows_i, new s n h.1 shows_j))
    (λ (k : (i ≡ length xs) × (e ≡ Some r)). absurd (omega (arith, k.0, less, h.0)))
    (at-end xs e (Some r) i at_i))
    (at-end xs e (Some s) j at_j)

pub answered-more : (o : Option TimetableState) (list later note learnt : List Message)
    (first me workers : ℕ) (lines : List WindowLine) (xs : List (Option Reply)) (i : ℕ) (line : WindowLine) (e : Option Reply)
    → HasAnswered o list (length note) first me workers lines xs → length xs ≡ i → slice_get lines i ≡ Some line → IsPrefix list later → IsPrefix note learnt
    → IsNewEntry o learnt later (first + (i + 1)) (asked_of me workers line) e → HasAnswered o later (length note) first me workers lines (xs ++ e ∷ [])
answered-more o list later note learnt first me workers lines xs i line e old len here pre noted new =
    let now : IsEntry o later (length note) (first + (i + 1)) (asked_of me workers line) e = fresh o note learnt later (first + (i + 1)) (asked_of me workers line) e noted new in
    record {
      each = λ place l x at_line at_entry. ⊎_elim
          (λ (h : slice_get xs place ≡ Some x). still o list later (length note) (first + (place + 1)) (asked_of me workers l) x pre (old.each place l x at_line h))
          (λ (h : (place ≡ length xs) × (e ≡ x)).
          let same : i ≡ place = sym len ∙ sym h.0 in
          let it : line ≡ l = same_Some line l (sym here ∙ (ap (slice_get lines) same ∙ at_line)) in
          subst (λ (y : Option Reply). IsEntry o later (length note) (first + (place + 1)) (asked_of me workers l) y) h.1
          (subst (λ (k : WindowLine). IsEntry o later (length note) (first + (place + 1)) (asked_of me workers k) e) it
          (subst (λ (k : ℕ). IsEntry o later (length note) (first + (k + 1)) (asked_of me workers line) e) same now)))
          (at-end xs e x place at_entry);
      rise = rise-more xs e (length later) old.rise
          (λ k r m at shows.
          let lt : k < length lines = omega (arith, inside xs k (Some r) at, len, inside lines i line here) in
          let l = get_or lines k line in
          omega (arith, longer list later pre, (entry-count o list (length note) (first + (k + 1)) m (asked_of me workers l) r (old.each k l (Some r) (slice_get-get_or lines k line lt) at) shows).1))
          (λ s n is shows. fresh-count o learnt later (first + (i + 1)) n (asked_of me workers line) e s new is shows);
    }

pub pushed-more : {E : Type 0} (o : Option TimetableState) (list later note learnt : List Message) (first me workers number : ℕ)
    (lines : List WindowLine) (xs ys : List (Option Reply)) (i : ℕ) (line : WindowLine) (asked : Option AskedQuery) (e : Result (Option Reply) E)
    → HasAnswered o list (length note) first me workers lines xs
    → length xs ≡ i → slice_get lines i ≡ Some line → IsPrefix list later → IsPrefix note learnt → asked ≡ asked_of me workers line → number ≡ first + i + 1
    → IfOk e (IsNewEntry o learnt later number asked) → IsPushed xs e ys → HasAnswered o later (length note) first me workers lines ys × (length ys ≡ i + 1)
pushed-more o list later note learnt first me workers number lines xs ys i line asked (Ok e) old len here pre noted is num new pushed =
    let same : number ≡ first + (i + 1) = omega (arith, num) in
    let it : IsNewEntry o learnt later (first + (i + 1)) (asked_of me workers line) e = subst
    (λ (a : Option AskedQuery). IsNewEntry o learnt later (first + (i + 1)) a e) is (subst (λ (n : ℕ). IsNewEntry o learnt later n asked e) same new) in
    (subst (HasAnswered o later (length note) first me workers lines) (sym pushed) (answered-more o list later note learnt first me workers lines xs i line e old len here pre noted it), omega (arith, ap length pushed, length-append xs (e ∷ []), len))
pushed-more o list later note learnt first me workers number lines xs ys i line asked (Err e) old len here pre noted is num new pushed = absurd pushed

-- no message changes the network
network-if : (b : Bool) (t u : TimetableState) → t.network ≡ u.network → (if b then t else u).network ≡ u.network
network-if true t u same = same
network-if false t u same = refl

pub network-kept : (list : List Message) (t : TimetableState) → (fold taken t list).network ≡ t.network
network-kept [] t = refl
network-kept (m ∷ list) t = network-kept list (taken t m) ∙ network-if (is_none (refusal t.network t.state m)) (stepped t m) t refl

-- nor how many numbers departures can have
numbers-if : (b : Bool) (t u : TimetableState) → t.numbers ≡ u.numbers → (if b then t else u).numbers ≡ u.numbers
numbers-if true t u same = same
numbers-if false t u same = refl

numbers-kept : (list : List Message) (t : TimetableState) → (fold taken t list).numbers ≡ t.numbers
numbers-kept [] t = refl
numbers-kept (m ∷ list) t = numbers-kept list (taken t m) ∙ numbers-if (is_none (refusal t.network t.state m)) (stepped t m) t refl

pub search-room : (o : Option TimetableState) (room : ScratchRoom) (list : List Message) (t : TimetableState) → HasSearchRoom o room → timetable_after o list ≡ Some t → IsRoomFor t room
search-room None room list t fits is = absurd cc
search-room (Some s) room list t fits is =
    let network : t.network ≡ s.network = ap (λ (u : TimetableState). u.network) (sym (same_Some (fold taken s list) t is)) ∙ network-kept list s in
    let numbers : t.numbers ≡ s.numbers = ap (λ (u : TimetableState). u.numbers) (sym (same_Some (fold taken s list) t is)) ∙ numbers-kept list s in
    let own = fits s refl in
    record { stops = subst (λ (nw : Network). length nw.stops ≤ room.stops) (sym network) own.stops; numbers = subst (λ n. n ≤ room.numbers) (sym numbers) own.numbers }

-- a reply in the timetable after the whole list
pub whole-answer : (o : Option TimetableState) (list : List Message) (number : ℕ) (asked : AskedQuery) (t : TimetableState) (r : Reply)
    → timetable_after o list ≡ Some t → IsReplyToQuery t.network t.state (length list) number asked.day asked.query r
    → IsAnswerAt o list (length list) number asked r
whole-answer o list number asked t r after is = record {
  count = length list;
  lower = omega arith;
  upper = omega arith;
  shown = t;
  after = ap (timetable_after o) (take_all (length list) list (omega arith)) ∙ after;
  answers = is;
}

pub answered-whole : {E : Type 0} (o : Option TimetableState) (list : List Message) (number : ℕ) (asked : AskedQuery) (t : TimetableState) (r : Result Reply E) → timetable_after o list ≡ Some t
    → IfOk r (IsReplyToQuery t.network t.state (length list) number asked.day asked.query) → IfOk r (IsAnswerAt o list (length list) number asked)
answered-whole o list number asked t (Ok r) after is = whole-answer o list number asked t r after is
answered-whole o list number asked t (Err e) after is = tt

-- what a worker answered over the list that its viewer saw, if all of it was posted
pub answered-within : (o : Option TimetableState) (start seen posted : List Message) (first me workers : ℕ) (lines : List WindowLine) (xs : List (Option Reply))
    → HasAnsweredAll o seen (length start) first me workers lines xs → IsPrefix seen posted
    → HasAnsweredAll o posted (length start) first me workers lines xs
answered-within o start seen posted first me workers lines xs worked pre = record {
  answered = record {
    each = λ place line e at_line at_entry. still o seen posted (length start) (first + (place + 1)) (asked_of me workers line) e pre (worked.answered.each place line e at_line at_entry);
    rise = worked.answered.rise;
  };
  all = worked.all;
}

-- what a worker answered that has a viewer, if all that this saw was posted
pub answered-by-viewer : (o : Option TimetableState) (start posted : List Message) (viewer : Option (Knowledge Message))
    (first me workers : ℕ) (lines : List WindowLine) (xs : List (Option Reply)) → HasWorked o start viewer first me workers lines xs
    → IsWithin true viewer posted → HasAnsweredAll o posted (length start) first me workers lines xs
answered-by-viewer o start posted None first me workers lines xs worked within = absurd within
answered-by-viewer o start posted (Some v) first me workers lines xs worked within = answered-within o start v.seen posted first me workers lines xs worked within

-- what the publisher answered is not older than the window's start
pub answered-apart : (o : Option TimetableState) (start posted : List Message) (first me workers : ℕ) (lines : List WindowLine) (xs : List (Option Reply))
    → IsPrefix start posted → HasAnsweredAll o posted (length posted) first me workers lines xs
    → HasAnsweredAll o posted (length start) first me workers lines xs
answered-apart o start posted first me workers lines xs later own = record {
  answered = record {
    each = λ place line e at_line at_entry. lower o posted (length posted)
        (length start) (first + (place + 1)) (asked_of me workers line) e (longer start posted later) (own.answered.each place line e at_line at_entry);
    rise = own.answered.rise;
  };
  all = own.all;
}

pub prefix-self : {X : Type 0} (list : List X) → IsPrefix list list
prefix-self list = ([], append-nil list)

pub new-entry : (o : Option TimetableState) (list : List Message) (number count : ℕ) (query : AskedQuery)
    (asked : Option AskedQuery) (t : TimetableState) (r : Reply) → asked ≡ Some query → count ≡ length list → timetable_after o list ≡ Some t
    → IsReplyToQuery t.network t.state count number query.day query.query r → IsNewEntry o list list number asked (Some r)
new-entry o list number count query asked t r is num after reply =
    subst (λ (a : Option AskedQuery). IsNewEntry o list list number a (Some r)) (sym is)
    (r, refl, whole-answer o list number query t r after (subst (λ (n : ℕ). IsReplyToQuery t.network t.state n number query.day query.query r) num reply), prefix-self list)
