use Rattle.connection_choices.proofs.Words.{rules, always_returns_same, end_cmp}
use Rattle.connection_choices.proofs.OverrideOrders.{ends_total}
use Rattle.connection_choices.proofs.PlaceLemmas.{searched}
use Rattle.connection_choices.proofs.override_rows.search.Goals as goal

-- the closure compares a row's connection
pub returns : goal.returns
returns c =
    let by_row = c.binary_search_by.ensures.position (λ row. end_cmp c.args.end row.0 c.args.connection.now) (always_returns_same _ _ _ (λ a r f called. search rules)) in
    searched (ends_total c.args.end) c.args.rows.now.items c.args.connection.now c.binary_search_by.result c.requires c.binary_search_by.ensures.bound by_row
