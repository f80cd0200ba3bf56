-- What `plans` writes is the same over networks that are alike.
use Rattle.std.proofs.Common.{◌≡◌, ◌∙◌, ap, refl, sym, arith, ℕ, List, Result, Ok, Err}
use Rattle.std.proofs.lemmas.List.Elements.{All-weaker}
use Rattle.delay_model.specs.declared.network.Network.{Network}
use Rattle.delay_model.specs.declared.state.State.{State}
use Rattle.information_service.proofs.Networks.{journey-same, reply-same, same-back}
use Rattle.information_service.proofs.TimesAlike.{line-keeps, line-over}
use Rattle.information_service.specs.Lines.{said_by}
use Rattle.information_service.specs.Networks.{IsSame, IsWrittenAlike, over}
use Rattle.information_service.specs.ServiceState.{ServiceState}
use Rattle.journey_laws.specs.Fronts.{IsFront, IsPlan}
use Rattle.message_reader.specs.ResolvedQueries.{query_resolved}
use Rattle.message_reader.specs.declared.bad_line.BadLine.{BadLine}
use Rattle.message_reader.specs.declared.resolve_queries.AskedQuery.{AskedQuery}
use Rattle.message_reader.specs.declared.wire.Line.{Line as Spoken}
use Rattle.message_reader.specs.declared.wire.Line.TheVariants.{Message as Says, Query as Asks, Flush}
use Rattle.mt_base.specs.declared.journeys.Plan.{Plan}
use Rattle.mt_base.specs.declared.journeys.Query.{Query}
use Rattle.plan_answers.specs.PlannedLines.{IsPlannedText, IsTextOfReply, planned_output}
use Rattle.plan_answers.specs.PlannedQueries.{IsQueryText}

-- networks alike have the same best plans
front-same : (a b : Network) → IsSame a b → (st : State) (q : Query) (m : ℕ) (plans : List Plan) → IsFront b st q m plans → IsFront a st q m plans
front-same a b h st q m plans front = record {
  journeys = All-weaker (IsPlan b st q m) (IsPlan a st q m) (λ p is. (journey-same a b h st q p.rides p.arrives is.0, is.1)) plans front.journeys;
  order = front.order;
  complete = λ rides at journey few. front.complete rides at (journey-same b a (same-back a b h) st q rides at journey) few;
}

module _ (nw : Network) (t : ServiceState) (same : IsSame nw t.network) where
  query-text-same : (rides line : ℕ) (asked : Result AskedQuery BadLine) (text : List ℕ) → IsQueryText t rides line asked text → IsQueryText (over nw t) rides line asked text
  query-text-same rides line (Ok asked) text is = record { plans = is.plans; front = front-same nw t.network same t.state asked.query rides is.plans is.front; text_is = is.text_is }
  query-text-same rides line (Err bad) text is = is

  reply-text-same : (line : ℕ) (said : Result Spoken BadLine) (text : List ℕ) (now : ServiceState) → IsTextOfReply t line said text now → IsTextOfReply (over nw t) line said text (over nw now)
  reply-text-same line said text now is = record { reply = is.reply; is_reply = reply-same nw t.network same t.names t.state t.count line said is.reply is.is_reply; text_is = is.text_is }

  planned-text-same : (rides line : ℕ) (said : Result Spoken BadLine) (text : List ℕ) (now : ServiceState)
      → IsPlannedText t rides line said text now → IsPlannedText (over nw t) rides line said text (over nw now)
  planned-text-same rides line (Ok (Asks q)) text now is = query-text-same rides line (query_resolved t.names q) text is
  planned-text-same rides line (Ok (Says w)) text now is = reply-text-same line (Ok (Says w)) text now is
  planned-text-same rides line (Ok Flush) text now is = reply-text-same line (Ok Flush) text now is
  planned-text-same rides line (Err bad) text now is = reply-text-same line (Err bad) text now is

pub planned-alike : IsWrittenAlike planned_output
planned-alike = record {
  begins = λ nw t rides same. refl;
  answers = λ nw t rides number x text now rides_now same one. (
    record {
      reply = planned-text-same nw t same rides number (said_by x) text now one.0.reply;
      leaves = ap (over nw) one.0.leaves ∙ sym (line-over nw t x same);
    },
    one.1,
  );
  ends = λ nw t rides same. refl;
  keeps = λ t rides number x text now rides_now one. ap (λ (s : ServiceState). s.network) one.0.leaves ∙ line-keeps t x;
}
