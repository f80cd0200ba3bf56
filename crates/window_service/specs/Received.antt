-- Which replies an output receives, window after window.
use Rattle.std.specs.Prelude.{ℕ, ◌≡◌, ◌⊎◌, ◌++◌, List, [], ◌∷◌, All, true, false}
use Rattle.std.specs.declared.option.Option.{Option}
use Rattle.std.specs.Io.KnownBytes.{Appends, Consumes}
use Rattle.delay_model.specs.declared.network.Network.{Network}
use Rattle.delay_model.specs.declared.state.State.{State}
use Rattle.delay_model.specs.Windows.{lines_of}
use Rattle.delay_report.specs.declared.replies.Reply.{Reply}
use Rattle.information_service.specs.Fronts.{AppendsFront, EndWasRead}
use Rattle.information_service.specs.Lines.{names_after}
use Rattle.mt_io.specs.Causes.{Faults, no_faults}
use Rattle.mt_io.specs.Lines.{Line, lines_of as lines_in}
use Rattle.query_crew.specs.Served.{AreRepliesFrom, AreWindowReplies, text_of_replies}
use Rattle.query_crew.specs.Windows.{AreReadWindows, IsClosedWindow}
use Rattle.window_service.specs.declared.sums.ReplySums.{ReplySums}
use Rattle.window_service.specs.Sums.{sums_after}
use Rattle.schedule_build.specs.Directory.{Names}

-- ---- outputs. `Receives` says that an output was as the first, received the replies to a window
-- by these names, and is then as the second; `Begins` says the same where it received a part of
-- them. `Failed` says that a write of it has failed

-- the texts of the replies are written, by what is written to an output so far
abbrev pub ReceivesTexts : {K : Type 0} → (K → Option (List ℕ)) → K → K → Names → List Reply
    → Type 0
ReceivesTexts written old new names replies =
    Appends (written old) (written new) (text_of_replies names replies)

-- a front of them is written, and not all where a write has failed
abbrev pub BeginsTexts : {K : Type 0} → (K → Option (List ℕ)) → Type 0 → K → K → Names → List Reply
    → Type 0
BeginsTexts written Failed old new names replies =
    AppendsFront Failed (written old) (written new) (text_of_replies names replies)

-- the replies are added up
abbrev pub ReceivesSums : ReplySums → ReplySums → Names → List Reply → Type 0
ReceivesSums old new names replies = new ≡ sums_after old replies

-- that does not fail
abbrev pub BeginsSums : Type 0 → ReplySums → ReplySums → Names → List Reply → Type 0
BeginsSums Failed old new names replies = ⊥

abbrev pub sums_faults : ReplySums → Faults
sums_faults sums = no_faults

abbrev pub AreSumsFull : ReplySums → Type 0
AreSumsFull sums = ⊥

-- ---- windows

-- the replies to windows were received, one window after the other, by the names that are known at
-- the end of each. The first of them stands behind the lines `before`
abbrev pub AreReceivedFrom : {K : Type 0} → (K → K → Names → List Reply → Type 0) → Network → Names
    → State → List Line → List (List Line) → List (List Reply) → K → K → Type 0
AreReceivedFrom Receives nw names st before [] rs old new = new ≡ old
AreReceivedFrom Receives nw names st before (w ∷ ws) [] old new = new ≡ old
AreReceivedFrom {K = K} Receives nw names st before (w ∷ ws) (r ∷ rs) old new =
    (mid : K) × Receives old mid (names_after nw names st (before ++ w)) r
    × AreReceivedFrom Receives nw names st (before ++ w) ws rs mid new

-- the replies to these windows of an input were received
pub record AreReceived {K : Type 0} (Receives : K → K → Names → List Reply → Type 0) (nw : Network)
    (names : Names) (st : State) (ws : List (List Line)) (old new : K) : Type 0 where
  pub replies : List (List Reply)
  pub are : AreRepliesFrom nw names st [] ws replies
  pub received : AreReceivedFrom Receives nw names st [] ws replies old new

-- the replies to the whole windows of these lines, which begin an input, were received
pub record AreWholeReceived {K : Type 0} (Receives : K → K → Names → List Reply → Type 0)
    (nw : Network) (names : Names) (st : State) (lines : List Line) (old new : K) : Type 0 where
  pub windows : List (List Line)
  pub last : List Line
  pub are_read : AreReadWindows windows last
  pub joined : lines ≡ lines_of windows ++ last
  pub received : AreReceived Receives nw names st windows old new

-- the replies to one window, which stands behind the lines `before`, were received, whole or in
-- part
pub record IsOneReceived {K : Type 0} (Receives : K → K → Names → List Reply → Type 0)
    (nw : Network) (names : Names) (st : State) (before window : List Line)
    (old new : K) : Type 0 where
  pub replies : List Reply
  pub are : AreWindowReplies nw names st before window replies
  pub received : Receives old new (names_after nw names st (before ++ window)) replies

-- the replies to the first windows of these lines were received, and perhaps a part of those to one
-- window more; where a write has `Failed`, surely a part
pub record AreFirstReceived {K : Type 0} (Failed : Type 0)
    (Receives Begins : K → K → Names → List Reply → Type 0) (nw : Network) (names : Names)
    (st : State) (lines : List Line) (old new : K) : Type 0 where
  pub windows : List (List Line)
  pub window : List Line
  pub later : List Line
  pub split : lines ≡ lines_of windows ++ window ++ later
  pub closed : All IsClosedWindow windows
  pub mid : K
  pub received : AreReceived Receives nw names st windows old mid
  pub more : ((new ≡ mid) × ¬ Failed) ⊎ (IsClosedWindow window
      × IsOneReceived Begins nw names st (lines_of windows) window mid new)

-- these lines are all of an input, and the replies to all windows were received. `Ends` says how
-- those to the last window were, which may have no lines: whole or in part
pub record AreAllReceived {K : Type 0} (Receives Ends : K → K → Names → List Reply → Type 0)
    (nw : Network) (names : Names) (st : State) (lines : List Line) (old new : K) : Type 0 where
  pub windows : List (List Line)
  pub last : List Line
  pub are_read : AreReadWindows windows last
  pub joined : lines ≡ lines_of windows ++ last
  pub mid : K
  pub received : AreReceived Receives nw names st windows old mid
  pub ends : IsOneReceived Ends nw names st (lines_of windows) last mid new

-- ---- an input

-- the end of the input was read, and the replies to all windows of its bytes were received
pub record IsReceivedWhole {K : Type 0} (Receives : K → K → Names → List Reply → Type 0)
    (nw : Network) (names : Names) (st : State) (budget : ℕ) (left left_now : Option (List ℕ))
    (old new : K) : Type 0 where
  pub bytes : List ℕ
  pub took : Consumes left left_now bytes
  pub ended : EndWasRead budget left_now bytes
  pub all : AreAllReceived Receives Receives nw names st (lines_in true bytes) old new

-- the replies to the whole windows among the bytes taken from the input were received
pub record IsReceivedInPart {K : Type 0} (Receives : K → K → Names → List Reply → Type 0)
    (nw : Network) (names : Names) (st : State) (left left_now : Option (List ℕ))
    (old new : K) : Type 0 where
  pub bytes : List ℕ
  pub took : Consumes left left_now bytes
  pub whole : AreWholeReceived Receives nw names st (lines_in false bytes) old new

-- the replies to the first windows of the bytes taken from the input were received, and perhaps a
-- part of those to one window more, surely where a write has `Failed`; where the end of the input
-- was read, that may be the last one
pub record IsReceivedAtFirst {K : Type 0} (Failed : Type 0)
    (Receives Begins : K → K → Names → List Reply → Type 0) (nw : Network) (names : Names)
    (st : State) (budget : ℕ) (left left_now : Option (List ℕ)) (old new : K) : Type 0 where
  pub bytes : List ℕ
  pub took : Consumes left left_now bytes
  pub first : AreFirstReceived Failed Receives Begins nw names st (lines_in false bytes) old new
      ⊎ (EndWasRead budget left_now bytes
      × (AreFirstReceived Failed Receives Begins nw names st (lines_in true bytes) old new
      ⊎ AreAllReceived Receives Begins nw names st (lines_in true bytes) old new))
