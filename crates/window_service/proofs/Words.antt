-- The words of windows, of replies, of what receives them and of fronts, and the lemmas on them, that these proofs cite, passed on from one place.
pub use Rattle.std.proofs.Common.{◌≡◌, ◌⊎◌, ◌∙◌, ◌≤◌, ◌+◌, ◌∷◌, ◌++◌, ℕ, List, [], length, All, Option, Some, true, false, refl, sym, ap, subst, arith, inl, inr, length-append, append_assoc}
pub use Rattle.std.proofs.KnownBytes.{Appends-trans, Appends-nil}
pub use Rattle.std.proofs.lemmas.List.{append-nil}
pub use Rattle.std.proofs.lemmas.Result.{IfErr-weaker, on_ok_weaker}
pub use Rattle.std.specs.Io.KnownBytes.{Appends, Consumes}
pub use Rattle.delay_model.specs.declared.messages.Message.{Message}
pub use Rattle.delay_model.specs.declared.network.Network.{Network}
pub use Rattle.delay_model.specs.declared.state.State.{State}
pub use Rattle.delay_model.specs.Windows.{lines_of}
pub use Rattle.information_service.specs.declared.fault.LinesFault.{LinesFault}
pub use Rattle.information_service.specs.Causes.{IsNotOfInput, WhereLinesStop}
pub use Rattle.information_service.specs.Fronts.{AppendsAll, AppendsFront, IsTaken}
pub use Rattle.delay_report.specs.declared.replies.Reply.{Reply}
pub use Rattle.information_service.specs.Lines.{names_after}
pub use Rattle.information_service.specs.ServiceState.{ServiceState, service_after}
pub use Rattle.information_service.proofs.Ends.{each_fault, handed_on, where_also}
pub use Rattle.information_service.proofs.Fronts.{front_none, front_all, front_after}
pub use Rattle.mt_io.specs.Lines.{Line}
pub use Rattle.mt_io.specs.Reader.{Reader, GivesNext, IsDone, HoldsNoLine}
pub use Rattle.schedule_build.specs.Directory.{Names}
pub use Rattle.timetable.specs.TimetableState.{TimetableState}
pub use Rattle.query_crew.specs.Posting.{StandsAt, HasService}
pub use Rattle.information_service.specs.Taking.{service_with}
pub use Rattle.query_crew.specs.Served.{AreRepliesFrom, AreServed, IsServed, text_of_replies}
pub use Rattle.query_crew.specs.Windows.{IsClosedWindow, IsOpenWindow}
pub use Rattle.window_service.specs.Whole.{AreWholeWindowsServed, AppendsServed, AppendsWholeWindows, AppendsFirstWindows, AppendsServedFront}
pub use Rattle.window_service.specs.Received.{ReceivesTexts, BeginsTexts, ReceivesSums, AreReceivedFrom, AreReceived, AreWholeReceived, IsOneReceived, AreFirstReceived, AreAllReceived, IsReceivedWhole, IsReceivedInPart, IsReceivedAtFirst}
pub use Rattle.window_service.specs.Runs.{IsAnswered, IsBegun, HasEnded, HasStopped, HasBegun}
