-- Windows that are read and answered one after another, whatever receives their replies.
use Rattle.window_service.proofs.Words.{◌≡◌, ◌⊎◌, ◌∙◌, ◌+◌, ◌∷◌, ◌++◌, ℕ, List, [], length, All, Option, Some, true, false, refl, sym, ap, subst, arith, inl, inr, append_assoc, length-append, append-nil, Message, Network, State, lines_of}
use Rattle.window_service.proofs.Words.{IsTaken, service_after, Line, Reader, GivesNext, IsDone, HoldsNoLine, Names, TimetableState, StandsAt, HasService, service_with, Reply, names_after, AreRepliesFrom}
use Rattle.window_service.proofs.Words.{IsClosedWindow, IsOpenWindow, AreReceivedFrom, AreReceived, AreFirstReceived, AreAllReceived, IsOneReceived, IsAnswered, IsBegun, HasEnded, HasStopped, HasBegun}
use Rattle.std.proofs.lemmas.Grind.{flat_map-append}
use Rattle.std.proofs.lemmas.List.Elements.{All-append, All-cons, All-nil}
use Rattle.std.proofs.lemmas.Option.{same_Some}
use Rattle.information_service.proofs.OneMore.{taken-more, within_new}
use Rattle.mt_io.specs.Runs.{fresh}
use Rattle.mt_io.proofs.Gives.{consumes_none, gives_nothing, open_ended}
use Rattle.mt_io.proofs.Runs.{begins, stops}
use Rattle.schedule_build.specs.InStep.{AreInStep}
use Rattle.query_crew.specs.Posted.{timetable_after}
use Rattle.query_crew.proofs.ServedLemmas.{replies-more}

-- these closed windows were read one after the other, of so many lines
pub record AreRead (r : Reader) (left left_now : Option (List ℕ)) (count : ℕ) (bytes : List ℕ) (ws : List (List Line)) : Type 0 where
  pub taken : IsTaken r left left_now bytes (lines_of ws)
  pub closed : All IsClosedWindow ws
  pub counted : count ≡ length (lines_of ws)

-- their replies were received, and the board stands as they leave it
pub record AreAnswered {K : Type 0} (Receives : K → K → Names → List Reply → Type 0) (o : Option TimetableState)
    (nw : Network) (names : Names) (st : State) (ws : List (List Line)) (posted : List Message) (names_now : Names) (old new : K) : Type 0 where
  pub output : AreReceived Receives nw names st ws old new
  pub stands : StandsAt o posted names_now (service_after nw names st (lines_of ws))

-- ---- before the first window

pub none-read : (r : Reader) (budget : ℕ) (left : Option (List ℕ)) → r ≡ fresh budget → AreRead r left left 0 [] []
none-read r budget left new =
    rw new (record {
      taken = record { source = consumes_none left; lines_so_far = begins budget; end = λ is. open_ended false refl is; within = within_new budget };
      closed = All-nil IsClosedWindow;
      counted = refl;
    })

stands-new : {o : Option TimetableState} {posted : List Message} {names : Names} (t : TimetableState)
    → o ≡ Some t → posted ≡ [] → HasService o posted names → StandsAt o posted names (service_after t.network names t.state [])
stands-new {o = o} {posted = posted} {names = names} t is new board =
    let after : timetable_after o posted ≡ Some t = rw (is, new) refl in
    let same : board.1.timetable ≡ t = same_Some board.1.timetable t (sym board.1.after ∙ after) in
    record {
      timetable = t;
      after = after;
      is = ap (λ (ms : List Message). service_with t (length ms) names) (sym new);
      in_step = subst (λ (u : TimetableState). AreInStep names u.state) same board.1.in_step;
    }

pub none-received : {K : Type 0} (Receives : K → K → Names → List Reply → Type 0) (nw : Network) (names : Names) (st : State) (out : K) → AreReceived Receives nw names st [] out out
none-received Receives nw names st out = record { replies = []; are = tt; received = refl }

pub none-answered : {K : Type 0} {Receives : K → K → Names → List Reply → Type 0}
    {o : Option TimetableState} {posted : List Message} {names : Names} (t : TimetableState) (out : K) → o ≡ Some t → posted ≡ [] → HasService o posted names
    → AreAnswered Receives o t.network names t.state [] posted names out out
none-answered {Receives = Receives} {names = names} t out is new board = record { output = none-received Receives t.network names t.state out; stands = stands-new t is new board }

-- ---- one window more

pub lines-more : (ws : List (List Line)) (w : List Line) → lines_of (ws ++ w ∷ []) ≡ lines_of ws ++ w
lines-more ws w = flat_map-append (λ (v : List Line). v) ws (w ∷ []) ∙ ap (λ (ls : List Line). lines_of ws ++ ls) (append-nil w)

pub closed-more : (ws : List (List Line)) (w : List Line) → All IsClosedWindow ws → IsClosedWindow w → All IsClosedWindow (ws ++ w ∷ [])
closed-more ws w closed one = All-append IsClosedWindow ws (w ∷ []) closed (All-cons IsClosedWindow w [] one (All-nil IsClosedWindow))

module _ {K : Type 0} (Receives : K → K → Names → List Reply → Type 0) (nw : Network) (names : Names) (st : State) where
  received-after : (before : List Line) (ws : List (List Line)) (rs : List (List Reply)) (w : List Line) (r : List Reply) (old mid new : K)
      → AreRepliesFrom nw names st before ws rs → AreReceivedFrom Receives nw names st before ws rs old mid
      → Receives mid new (names_after nw names st (before ++ lines_of ws ++ w)) r → AreReceivedFrom Receives nw names st before (ws ++ w ∷ []) (rs ++ r ∷ []) old new
  received-after before [] [] w r old mid new are same one =
      (new, subst (λ (m : K). Receives m new (names_after nw names st (before ++ w)) r) same (subst (λ (b : List Line). Receives mid new (names_after nw names st (b ++ w)) r) (append-nil before) one), refl)
  received-after before [] (s ∷ rs) w r old mid new are same one = absurd are
  received-after before (v ∷ ws) [] w r old mid new are same one = absurd are
  received-after before (v ∷ ws) (s ∷ rs) w r old mid new are taken one = (
    taken.0,
    taken.1,
    received-after (before ++ v) ws rs w r taken.0 mid new are.1 taken.2
        (subst (λ (b : List Line). Receives mid new (names_after nw names st (b ++ w)) r) (sym (append_assoc before v (lines_of ws))) one),
  )

  pub one-more : (ws : List (List Line)) (w : List Line) (old mid new : K) → AreReceived Receives nw names st ws old mid
      → IsOneReceived Receives nw names st (lines_of ws) w mid new → AreReceived Receives nw names st (ws ++ w ∷ []) old new
  one-more ws w old mid new all one = record {
    replies = all.replies ++ one.replies ∷ [];
    are = replies-more nw names st [] ws all.replies w one.replies all.are one.are;
    received = received-after [] ws all.replies w one.replies old mid new all.are all.received one.received;
  }

module _ {mid now : Reader} {left left_mid left_now : Option (List ℕ)} {count : ℕ} {bytes : List ℕ} {ws : List (List Line)} {w : List Line}
    (read : AreRead mid left left_mid count bytes ws) (next : GivesNext mid now left_mid left_now w) (same : mid.ended ≡ true → left_now ≡ left_mid) where
  pub all-taken : (all : List ℕ) × IsTaken now left left_now all (lines_of ws ++ w)
  all-taken = taken-more read.taken same next

  pub read-more : (more : ℕ) → more ≡ count + length w → IsClosedWindow w → AreRead now left left_now more all-taken.0 (ws ++ w ∷ [])
  read-more more is closed = record {
    taken = subst (IsTaken now left left_now all-taken.0) (sym (lines-more ws w)) all-taken.1;
    closed = closed-more ws w read.closed closed;
    counted = omega (arith, is, read.counted, ap length (lines-more ws w), length-append (lines_of ws) w);
  }

module _ {K : Type 0} {Receives : K → K → Names → List Reply → Type 0}
    {o : Option TimetableState} {nw : Network} {names names_mid : Names} {st : State} {ws : List (List Line)} {posted : List Message} {out out_mid : K}
    (so_far : AreAnswered Receives o nw names st ws posted names_mid out out_mid) where
  pub answered-more : {w : List Line} {posted_now : List Message} {names_now : Names} {out_now : K}
      → IsAnswered Receives o nw names st (lines_of ws) w posted_now names_now out_mid out_now → AreAnswered Receives o nw names st (ws ++ w ∷ []) posted_now names_now out out_now
  answered-more {w = w} {posted_now = posted_now} {names_now = names_now} {out_now = out_now} answered = record {
    output = one-more Receives nw names st ws w out out_mid out_now so_far.output answered.one;
    stands = subst (λ (ls : List Line). StandsAt o posted_now names_now (service_after nw names st ls)) (sym (lines-more ws w)) answered.stands;
  }

module _ {K Failed : Type 0} {Receives Begins : K → K → Names → List Reply → Type 0}
    {o : Option TimetableState} {nw : Network} {names names_mid : Names} {st : State} {ws : List (List Line)} {posted : List Message} {out out_mid : K}
    (so_far : AreAnswered Receives o nw names st ws posted names_mid out out_mid) where
  -- the windows so far, and perhaps a beginning of one more
  first-received : (w : List Line) {out_now : K} → All IsClosedWindow ws → IsClosedWindow w
      → IsBegun Failed Begins nw names st (lines_of ws) w out_mid out_now → AreFirstReceived Failed Receives Begins nw names st (lines_of ws ++ w) out out_now
  first-received w closed one (inl none) =
      record { windows = ws; window = w; later = []; split = sym (append-nil (lines_of ws ++ w)); closed = closed; mid = out_mid; received = so_far.output; more = inl none }
  first-received w closed one (inr begun) =
      record { windows = ws; window = w; later = []; split = sym (append-nil (lines_of ws ++ w)); closed = closed; mid = out_mid; received = so_far.output; more = inr (one, begun) }

  none-more : ¬ Failed → (w : List Line) → All IsClosedWindow ws → AreFirstReceived Failed Receives Begins nw names st (lines_of ws ++ w) out out_mid
  none-more no_fault w closed =
      record { windows = ws; window = w; later = []; split = sym (append-nil (lines_of ws ++ w)); closed = closed; mid = out_mid; received = so_far.output; more = inl (refl, no_fault) }

  -- the same at the last lines of the input
  last-received : {w : List Line} {out_now : K} (r : Reader) → All IsClosedWindow ws → IsOpenWindow w → IsDone r → IsBegun Failed Begins nw names st (lines_of ws) w out_mid out_now
      → AreFirstReceived Failed Receives Begins nw names st (lines_of ws ++ w) out out_now ⊎ (IsDone r × AreAllReceived Receives Begins nw names st (lines_of ws ++ w) out out_now)
  last-received {w = w} r closed rest done (inl none) = inl
      (record { windows = ws; window = w; later = []; split = sym (append-nil (lines_of ws ++ w)); closed = closed; mid = out_mid; received = so_far.output; more = inl none })
  last-received {w = w} r closed rest done (inr begun) =
      inr (done, record { windows = ws; last = w; are_read = record { closed = closed; rest = rest }; joined = refl; mid = out_mid; received = so_far.output; ends = begun })

-- ---- how answering ends

module _ {K : Type 0} {Receives : K → K → Names → List Reply → Type 0} {o : Option TimetableState} {nw : Network} {names names_mid : Names} {st : State} {posted : List Message} {out out_mid : K}
    {mid now : Reader} {left left_mid left_now : Option (List ℕ)} {count : ℕ} {bytes : List ℕ} {ws : List (List Line)} {w : List Line}
    (read : AreRead mid left left_mid count bytes ws) (next : GivesNext mid now left_mid left_now w) (same : mid.ended ≡ true → left_now ≡ left_mid)
    (so_far : AreAnswered Receives o nw names st ws posted names_mid out out_mid) where
  -- with the replies to the last lines
  pub ended-all : {posted_now : List Message} {names_now : Names} {out_now : K} → IsOpenWindow w → IsDone now → IsAnswered Receives o nw names st (lines_of ws) w posted_now names_now out_mid out_now
      → HasEnded Receives nw names st now left left_now out out_now
  ended-all rest done answered =
      let got = all-taken read next same in
      record {
        bytes = got.0;
        lines = lines_of ws ++ w;
        done = done;
        read = got.1;
        output = record { windows = ws; last = w; are_read = record { closed = read.closed; rest = rest }; joined = refl; mid = out_mid; received = so_far.output; ends = answered.one };
      }

  -- where the end was not read, and the last lines have no reply
  pub stopped : IsOpenWindow w → now.ended ≡ false → HoldsNoLine now → HasStopped Receives nw names st now left left_now out out_mid
  stopped rest not_yet none =
      let got = all-taken read next same in
      record {
        bytes = got.0;
        lines = lines_of ws ++ w;
        are = stops got.0 (lines_of ws ++ w) now got.1.lines_so_far not_yet none;
        read = got.1;
        output = record { windows = ws; last = w; are_read = record { closed = read.closed; rest = rest }; joined = refl; received = so_far.output };
      }

module _ {K Failed : Type 0} {Receives Begins : K → K → Names → List Reply → Type 0}
    {o : Option TimetableState} {nw : Network} {names names_mid : Names} {st : State} {posted : List Message} {out out_mid : K}
    {mid now : Reader} {left left_mid left_now : Option (List ℕ)} {count : ℕ} {bytes : List ℕ} {ws : List (List Line)} {w : List Line}
    (read : AreRead mid left left_mid count bytes ws) (next : GivesNext mid now left_mid left_now w) (same : mid.ended ≡ true → left_now ≡ left_mid)
    (so_far : AreAnswered Receives o nw names st ws posted names_mid out out_mid) where
  begun-by : {out_now : K} → AreFirstReceived Failed Receives Begins nw names st (lines_of ws ++ w) out out_now
      ⊎ (IsDone now × AreAllReceived Receives Begins nw names st (lines_of ws ++ w) out out_now)
      → HasBegun Failed Receives Begins nw names st now left left_now out out_now
  begun-by output = record { bytes = (all-taken read next same).0; lines = lines_of ws ++ w; read = (all-taken read next same).1; output = output }

  pub begun-before : ¬ Failed → HasBegun Failed Receives Begins nw names st now left left_now out out_mid
  begun-before no_fault = begun-by (inl (none-more so_far no_fault w read.closed))

  pub begun-more : {out_now : K} → IsClosedWindow w → IsBegun Failed Begins nw names st (lines_of ws) w out_mid out_now → HasBegun Failed Receives Begins nw names st now left left_now out out_now
  begun-more closed begun = begun-by (inl (first-received so_far w read.closed closed begun))

  pub begun-last : {out_now : K} → IsOpenWindow w → IsDone now
      → IsBegun Failed Begins nw names st (lines_of ws) w out_mid out_now → HasBegun Failed Receives Begins nw names st now left left_now out out_now
  begun-last rest done begun = begun-by (last-received so_far now read.closed rest done begun)

-- between two windows
pub begun-so-far : {K Failed : Type 0} {Receives Begins : K → K → Names → List Reply → Type 0}
    {o : Option TimetableState} {nw : Network} {names names_mid : Names}
    {st : State} {posted : List Message} {out out_mid : K} {mid : Reader} {left left_mid : Option (List ℕ)} {count : ℕ} {bytes : List ℕ} {ws : List (List Line)}
    → ¬ Failed → AreRead mid left left_mid count bytes ws
    → AreAnswered Receives o nw names st ws posted names_mid out out_mid → HasBegun Failed Receives Begins nw names st mid left left_mid out out_mid
begun-so-far {mid = mid} {left_mid = left_mid} no_fault read so_far = begun-before read ([], gives_nothing mid left_mid) (λ is. refl) so_far no_fault
