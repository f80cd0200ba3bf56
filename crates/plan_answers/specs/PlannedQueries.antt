-- The replies of `plans` to queries: all best plans up to a number of rides.
use Rattle.std.specs.Prelude.{◌≡◌, ℕ, List, Result, Ok, Err}
use Rattle.delay_report.specs.Plans.{text_of_plans}
use Rattle.delay_report.specs.Replies.{text_of_reply}
use Rattle.delay_report.specs.declared.replies.Reply.TheVariants.{Bad}
use Rattle.information_service.specs.ServiceState.{ServiceState}
use Rattle.journey_laws.specs.Fronts.{IsFront}
use Rattle.message_reader.specs.declared.bad_line.BadLine.{BadLine}
use Rattle.message_reader.specs.declared.resolve_queries.AskedQuery.{AskedQuery}
use Rattle.mt_base.specs.declared.journeys.Plan.{Plan}

-- this is the text of the reply to a query by number: its best plans with at most so many rides, in
-- the state of the service, and the number of messages that were accepted
pub record IsPlansText (t : ServiceState) (rides line : ℕ) (asked : AskedQuery) (text : List ℕ)
    : Type 0 where
  pub plans : List Plan
  pub front : IsFront t.network t.state asked.query rides plans
  pub text_is : text ≡ text_of_plans t.names line t.count asked.day plans

-- this is the text of the reply to a query by number, or to one whose names make its line bad
abbrev pub IsQueryText : ServiceState → ℕ → ℕ → Result AskedQuery BadLine → List ℕ → Type 0
IsQueryText t rides line (Ok asked) text = IsPlansText t rides line asked text
IsQueryText t rides line (Err bad) text = text ≡ text_of_reply t.names (Bad line bad)
