-- How far two outputs of the same lines are alike.
use Rattle.std.specs.Prelude.{◌≡◌, ◌⊎◌, ℕ, List, [], ◌∷◌, ◌++◌, Ok}
use Rattle.mt_base.specs.declared.journeys.PlanRide.{PlanRide}
use Rattle.delay_model.specs.declared.network.Network.{Network}
use Rattle.delay_model.specs.declared.state.State.{State}
use Rattle.delay_model.specs.After.{after_messages}
use Rattle.delay_report.specs.declared.replies.Reply.TheVariants.{Journey}
use Rattle.delay_report.specs.Replies.{text_of_reply}
use Rattle.delay_report.specs.Table.{table}
use Rattle.message_reader.specs.declared.resolve_queries.AskedQuery.{AskedQuery}
use Rattle.message_reader.specs.declared.wire.WireQuery.{WireQuery}
use Rattle.message_reader.specs.declared.wire.Line.TheVariants.{Query as Asks}
use Rattle.message_reader.specs.ResolvedQueries.{query_resolved}
use Rattle.mt_io.specs.Lines.{Line}
use Rattle.schedule_build.specs.Directory.{Names}
use Rattle.information_service.specs.Lines.{said_by, accepted_of, names_after}

-- the line asks a query by the names that are known, and these texts show two journeys for it that
-- arrive at the same time
pub record ShowTwoJourneys (known : Names) (x : Line) (a b : List ℕ) : Type 0 where
  pub query : WireQuery
  pub asks : said_by x ≡ Ok (Asks query)
  pub asked : AskedQuery
  pub resolved : query_resolved known query ≡ Ok asked
  pub line : ℕ
  pub count : ℕ
  pub arrives : ℕ
  pub rides : List PlanRide
  pub others : List PlanRide
  pub first : a ≡ text_of_reply known (Journey line count asked.day arrives rides)
  pub second : b ≡ text_of_reply known (Journey line count asked.day arrives others)

-- two lists of reply lines to these lines, which stand behind those before, are alike: line by line
-- they are the same, or show two journeys that arrive at the same time
abbrev pub AreAlike : Network → Names → State → List Line → List Line → List ℕ → List ℕ → Type 0
AreAlike nw names st before [] a b = (a ≡ []) × (b ≡ [])
AreAlike nw names st before (x ∷ xs) a b =
    (text other rest others : List ℕ)
    × ((text ≡ other) ⊎ ShowTwoJourneys (names_after nw names st before) x text other)
    × AreAlike nw names st (before ++ x ∷ []) xs rest others × (a ≡ text ++ rest)
    × (b ≡ other ++ others)

-- two outputs of these lines have replies that are alike, and the same table behind them
pub record DifferInJourneysAlone (nw : Network) (names : Names) (st : State) (lines : List Line)
    (a b : List ℕ) : Type 0 where
  pub shown : List ℕ
  pub other : List ℕ
  pub replies : AreAlike nw names st [] lines shown other
  pub first : a ≡ shown ++ table nw (names_after nw names st lines)
      (after_messages st (accepted_of nw names st lines))
  pub second : b ≡ other ++ table nw (names_after nw names st lines)
      (after_messages st (accepted_of nw names st lines))
