use Rattle.window_service.proofs.Words.{◌≡◌, List, ℕ, Some, Line, TimetableState}
use Rattle.mt_io.specs.Reader.{work}
use Rattle.query_crew.specs.Crews.{IsReady}
use Rattle.window_service.proofs.Answered.{AreRead, AreAnswered}
use Rattle.window_service.proofs.windows.answer_windows.Given as goal

abbrev pub invariant-windows : goal.invariant-windows
invariant-windows g l =
    let left = g.S.Source.left in
    let o = g.H.Opening.opening in
    record {
      run : (bytes : List ℕ) × (ws : List (List Line)) × AreRead l.reader (left l.initial.input) (left l.input) l.first bytes ws
          × ((t : TimetableState) → o ≡ Some t → AreAnswered g.T.ReceiveReplies.receives o t.network l.initial.crew.directory t.state ws l.crew.publisher l.crew.directory l.initial.out l.out);
      ready : IsReady o l.crew;
      budget : l.reader.budget ≡ l.initial.reader.budget;
      read : g.S.Source.faults l.input ≡ g.S.Source.faults l.initial.input;
      write : g.T.ReceiveReplies.faults l.out ≡ g.T.ReceiveReplies.faults l.initial.out;
    }

abbrev pub decreases-windows : goal.decreases-windows
decreases-windows g l = work l.reader
