-- What the proofs of this crate speak of, passed on from one place.
pub use Rattle.delay_model.specs.After.{accepted, accepted_message, known_after}
unfoldable pub use Rattle.delay_model.specs.Refusals.{refusal}
pub use Rattle.delay_model.specs.declared.messages.Message.{Message}
pub use Rattle.delay_model.specs.declared.messages.Refusal.{Refusal}
pub use Rattle.delay_model.specs.declared.network.Network.{Network}
pub use Rattle.delay_model.specs.declared.state.State.{State}
unfoldable pub use Rattle.delay_report.specs.Replies.{text_of_reply}
pub use Rattle.delay_report.specs.Table.{header, rows_of_train}
unfoldable pub use Rattle.delay_report.specs.Table.{rows_from, table}
pub use Rattle.delay_report.specs.declared.replies.Reply.{Reply}
pub use Rattle.information_service.specs.Causes.{WhereLinesStop}
pub use Rattle.information_service.specs.Fronts.{AppendsFront}
pub use Rattle.information_service.specs.Lines.{by_names, messages_of, names_with, said_by}
pub use Rattle.information_service.specs.Output.{AreReplies, IsOutput, IsReply, IsReplyTo, IsReplyToResolved, IsTextAfter, reply_to_message}
pub use Rattle.information_service.specs.ServiceState.{ServiceState, after_line}
unfoldable pub use Rattle.message_reader.specs.Resolved.{resolved}
pub use Rattle.message_reader.specs.ResolvedQueries.{query_resolved}
pub use Rattle.message_reader.specs.declared.bad_line.BadLine.{BadLine}
pub use Rattle.message_reader.specs.declared.resolve_queries.AskedQuery.{AskedQuery}
pub use Rattle.message_reader.specs.declared.wire.Wire.{Wire}
pub use Rattle.mt_io.proofs.Gives.{consumes_none}
pub use Rattle.mt_io.specs.Answers.{next_lines}
pub use Rattle.mt_io.specs.Lines.{Line}
unfoldable pub use Rattle.mt_io.specs.Lines.{lines_of}
pub use Rattle.mt_io.specs.Reader.{GivesNext, Reader}
pub use Rattle.schedule_build.specs.Directory.{Names}
pub use Rattle.std.proofs.Common.{Err, List, None, Ok, Option, Result, Some, [], ap, append_assoc, arith, false, inl, inr, is_none, length, refl, subst, suc, sym, true, zero, ℕ, ◌++◌, ◌+◌, ◌<◌, ◌∙◌, ◌∷◌, ◌≡◌, ◌≢◌, ◌≤◌}
pub use Rattle.std.proofs.KnownBytes.{Appends-nil, Appends-trans}
pub use Rattle.std.proofs.lemmas.Bool.{cases_Bool}
pub use Rattle.std.proofs.lemmas.List.{append-nil}
pub use Rattle.std.proofs.lemmas.Option.{none-some, same_Some}
pub use Rattle.std.specs.Io.KnownBytes.{Appends, Consumes, IsAtEnd}
