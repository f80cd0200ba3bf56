use Rattle.gtfs_tables.proofs.Words.{arith, refl}
use Rattle.gtfs_tables.specs.Feeds.{tables_of}
use Rattle.gtfs_tables.proofs.LawTables.{tables-lawful}
use Rattle.gtfs_tables.proofs.feeds.read_tables.Goals as goal

pub build-requires-3 : goal.build-requires-3
build-requires-3 g c =
    let calendar = rw c.into_parts-trips.ensures.services at c.in_ok-calendar.ensures.some.1 in
    let rules = rw c.into_parts-trips.ensures.routes at c.in_ok-rules.ensures.some.1 in
    let few_trips = c.in_ok-trips.ensures.size in
    let few_weekly = rw c.into_parts-trips.ensures.services at c.in_ok-calendar.ensures.size in
    let few_dates = c.in_ok-dates.ensures.size in
    let few_rules = rw c.into_parts-trips.ensures.routes at c.in_ok-rules.ensures.size in
    record {
      lawful = rw (c.into_rows.ensures, c.build.ensures, c.into_names.ensures, c.build-2.ensures, c.into_names-2.ensures, c.into_parts-trips.ensures.trips)
          (tables-lawful _ _ _ _ _ _ _ _ _ _ _ _ _ _ c.in_ok-stops.ensures.some.1 c.in_ok-trips.ensures.some.1 c.in_ok-calls.ensures.some.1 calendar c.in_ok-dates.ensures.some.1 c.in_ok-transfers.ensures.some.1 rules _ refl (record {
            routes = omega (arith, few_trips, few_rules);
            services = omega (arith, few_trips, few_weekly, few_dates);
            trips = omega (arith, few_trips);
            calls = omega (arith, c.in_ok-calls.ensures.size);
            calendar = omega (arith, few_trips, few_weekly);
            dates = omega (arith, few_trips, few_weekly, few_dates);
          }));
    }

pub returns-in_err-stops-clause-exact : goal.returns-in_err-stops-clause-exact
unfolding tables_of
returns-in_err-stops-clause-exact g c = grind arith

pub returns-in_err-trips-clause-exact : goal.returns-in_err-trips-clause-exact
unfolding tables_of
returns-in_err-trips-clause-exact g c = grind arith

pub returns-in_err-calls-clause-exact : goal.returns-in_err-calls-clause-exact
unfolding tables_of
returns-in_err-calls-clause-exact g c = grind arith

pub returns-in_err-calendar-clause-exact : goal.returns-in_err-calendar-clause-exact
unfolding tables_of
returns-in_err-calendar-clause-exact g c = grind arith

pub returns-in_err-dates-clause-exact : goal.returns-in_err-dates-clause-exact
unfolding tables_of
returns-in_err-dates-clause-exact g c = grind arith

pub returns-in_err-transfers-clause-exact : goal.returns-in_err-transfers-clause-exact
unfolding tables_of
returns-in_err-transfers-clause-exact g c = grind arith

pub returns-in_err-rules-clause-exact : goal.returns-in_err-rules-clause-exact
unfolding tables_of
returns-in_err-rules-clause-exact g c = grind arith

pub returns-in_err-check_frequencies_in-clause-exact : goal.returns-in_err-check_frequencies_in-clause-exact
unfolding tables_of
returns-in_err-check_frequencies_in-clause-exact g c = grind arith

pub returns-clause-exact : goal.returns-clause-exact
unfolding tables_of
returns-clause-exact g c = grind arith

pub returns-in_err-stops-clause-reads : goal.returns-in_err-stops-clause-reads
returns-in_err-stops-clause-reads g c = grind arith

pub returns-in_err-trips-clause-reads : goal.returns-in_err-trips-clause-reads
returns-in_err-trips-clause-reads g c = grind arith

pub returns-in_err-calls-clause-reads : goal.returns-in_err-calls-clause-reads
returns-in_err-calls-clause-reads g c = grind arith

pub returns-in_err-calendar-clause-reads : goal.returns-in_err-calendar-clause-reads
returns-in_err-calendar-clause-reads g c = grind arith

pub returns-in_err-dates-clause-reads : goal.returns-in_err-dates-clause-reads
returns-in_err-dates-clause-reads g c = grind arith

pub returns-in_err-transfers-clause-reads : goal.returns-in_err-transfers-clause-reads
returns-in_err-transfers-clause-reads g c = grind arith

pub returns-in_err-rules-clause-reads : goal.returns-in_err-rules-clause-reads
returns-in_err-rules-clause-reads g c = grind arith

pub returns-in_err-check_frequencies_in-clause-reads : goal.returns-in_err-check_frequencies_in-clause-reads
returns-in_err-check_frequencies_in-clause-reads g c = grind arith

pub returns-clause-reads : goal.returns-clause-reads
returns-clause-reads g c = grind arith
