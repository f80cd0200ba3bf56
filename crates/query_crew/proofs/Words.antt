-- What the proofs of this crate speak of, passed on from one place.
pub use Rattle.delay_model.specs.After.{accepted, after_messages}
pub use Rattle.delay_model.specs.Effect.{effect}
pub use Rattle.delay_model.specs.Refusals.{refusal}
pub use Rattle.delay_model.specs.Windows.{lines_of}
pub use Rattle.delay_model.specs.declared.messages.Message.{Message}
pub use Rattle.delay_model.specs.declared.messages.Refusal.{Refusal}
pub use Rattle.delay_model.specs.declared.network.Network.{Network}
pub use Rattle.delay_model.specs.declared.state.State.{State}
unfoldable pub use Rattle.delay_report.specs.Replies.{text_of_reply}
pub use Rattle.delay_report.specs.declared.replies.Reply.{Reply}
pub use Rattle.information_service.specs.Lines.{accepted_of, added_name, by_names, messages_of, names_after, said_by, with_added}
pub use Rattle.information_service.specs.Output.{IsReply, IsReplyTo, IsReplyToQuery, IsReplyToResolved}
pub use Rattle.information_service.specs.ServiceState.{ServiceState, service_after}
pub use Rattle.message_reader.specs.Lines.{message_in}
pub use Rattle.message_reader.specs.Resolved.{resolved}
unfoldable pub use Rattle.message_reader.specs.ResolvedQueries.{query_resolved}
pub use Rattle.message_reader.specs.declared.bad_line.BadLine.{BadLine}
pub use Rattle.message_reader.specs.declared.resolve_queries.AskedQuery.{AskedQuery}
pub use Rattle.message_reader.specs.declared.wire.Line.TheVariants.{Flush}
pub use Rattle.message_reader.specs.declared.wire.Wire.{Wire}
pub use Rattle.message_reader.specs.declared.wire.WireQuery.{WireQuery}
pub use Rattle.mt_io.specs.Lines.{Line}
pub use Rattle.mt_io.specs.Reader.{GivesNext, Reader}
pub use Rattle.query_crew.specs.Joining.{AreJoined, answer_for, chosen, reply_for}
pub use Rattle.query_crew.specs.Posted.{HasSearchRoom, IsAnswerAt, IsRoomFor, timetable_after}
pub use Rattle.query_crew.specs.Posting.{ArePosted, IsTaken, StandsAt, after_lines, after_shown, message_shown, publisher_replies, publisher_reply}
pub use Rattle.query_crew.specs.Served.{AreRepliesFrom, AreServed, AreWindowReplies, IsQueryReply, IsReplyAt, shown_count, text_from, text_of_replies}
pub use Rattle.query_crew.specs.WindowLines.{is_flush_line, window_line, window_lines}
pub use Rattle.query_crew.specs.Windows.{AreReadWindows, is_flush, windows_of, with_last}
pub use Rattle.query_crew.specs.Working.{HasAnswered, HasAnsweredAll, HasWorked, IsEntry, asked_of}
pub use Rattle.query_crew.specs.declared.window_line.ClientQuery.{ClientQuery}
pub use Rattle.query_crew.specs.declared.window_line.WindowLine.{WindowLine}
pub use Rattle.schedule_build.specs.Directory.{Names}
pub use Rattle.std.proofs.Common.{Bool, Err, IfOk, IsSome, List, None, Ok, Option, Result, Some, [], ap, append-nil, append_assoc, arith, drop, false, fold, inl, inr, is_none, length, length-append, refl, rules, set, slice_get, subst, suc, sym, take, true, zero, ℕ, ⊎_elim, ◌%◌, ◌++◌, ◌+◌, ◌-◌, ◌<◌, ◌∙◌, ◌∷◌, ◌≡◌, ◌≤◌, ◌⊎◌}
pub use Rattle.std.proofs.Math.Seq.{take-length}
pub use Rattle.std.proofs.lemmas.List.{get_or-set_other, length-map, length-set, take-append-le}
pub use Rattle.std.proofs.lemmas.List.Elements.{All-append, All-cons, All-nil, filter_map-append}
pub use Rattle.std.proofs.lemmas.List.Sums.{fold-append}
pub use Rattle.std.proofs.lemmas.Option.{same_Some, slice_get-get_or, slice_get_within}
pub use Rattle.std.specs.List.{All, filter_map, list_any, sum}
pub use Rattle.std.specs.Option.{option_map_or}
pub use Rattle.timetable.specs.TimetableState.{TimetableState, stepped, taken}
pub use mathlib.Core.List.{IsPrefix}
