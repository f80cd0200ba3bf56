-- What is written for a line is the same over networks that are alike.
use Rattle.std.proofs.Common.{◌≡◌, Result, Ok, Err, ap, refl}
use Rattle.delay_model.specs.declared.network.Network.{Network}
use Rattle.information_service.specs.Networks.{IsSame, over}
use Rattle.information_service.specs.ServiceState.{ServiceState}
use Rattle.information_service.proofs.Networks.{answer-same, same-back}
use Rattle.message_reader.specs.declared.bad_line.BadLine.{BadLine}
use Rattle.message_reader.specs.declared.wire.Line.{Line as Spoken}
use Rattle.message_reader.specs.declared.wire.Line.TheVariants.{Message as Says, Query as Asks, Flush}
use Rattle.message_reader.specs.Resolved.{resolved}
use Rattle.journal_answers.specs.JournaledLines.{accepted_text, said_text}

pub said-alike : (nw : Network) (t : ServiceState) (said : Result Spoken BadLine) → IsSame nw t.network → said_text (over nw t) said ≡ said_text t said
said-alike nw t (Ok (Says w)) same = ap (accepted_text w) (answer-same t.network nw (same-back nw t.network same) t.state (resolved t.names w))
said-alike nw t (Ok (Asks q)) same = refl
said-alike nw t (Ok Flush) same = refl
said-alike nw t (Err bad) same = refl
