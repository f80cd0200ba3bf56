-- The tables that the feed holds: those that no number of trains changes are computed from their bytes.
use Rattle.feed_gen_laws.proofs.Words.{List, None, Ok, StopRow, [], chars, codes, contents_of, digits_after, encode, files, is_utf8, map, next_record, records_from, records_of, refl, rows_from, strip_bom, table_from, table_named, true, ℕ, ◌*◌, ◌∷◌, ◌≡◌, ◌≤◌}
use Rattle.feed_gen.specs.Tables.{calendar_table, waiting_rules_table}
use Rattle.gtfs_tables.specs.Calendar.{days_of, with_service}
use Rattle.gtfs_tables.specs.Feeds.{calendar_in, dates_in, frequencies_in, rules_in, tables_of, transfers_in}
use Rattle.gtfs_tables.specs.Fields.{digit_within}
use Rattle.mt_base.specs.Texts.{date_of, eight_digits}
use Rattle.mt_base.specs.declared.tables.CalendarRow.{CalendarRow}
use Rattle.mt_base.specs.declared.tables.RuleRow.{RuleRow}
use Rattle.mt_base.specs.declared.tables.Tables.{Tables}
use Rattle.feed_gen_laws.proofs.Calls.{call, calls-in, of_row}
use Rattle.feed_gen_laws.proofs.Rows.{numbers}
use Rattle.feed_gen_laws.proofs.Stops.{stop, stops-in}
use Rattle.feed_gen_laws.proofs.Trips.{trip, trips-in}

-- the one service runs on each day of the year
abbrev pub every_day : CalendarRow
every_day = record { service = 0; days = true ∷ true ∷ true ∷ true ∷ true ∷ true ∷ true ∷ []; first = 20260101; last = 20261231 }

calendar-in : (trains : ℕ) (folder : List ℕ) → calendar_in (contents_of (files trains) folder) (codes "ALL" ∷ []) ≡ Ok (record { services = codes "ALL" ∷ []; rows = every_day ∷ [] })
unfolding calendar_in table_named calendar_table records_of records_from next_record strip_bom table_from rows_from chars encode is_utf8 days_of with_service digit_within date_of eight_digits
calendar-in trains folder = refl

-- no dates, since there is a calendar
dates-in : (trains : ℕ) (folder : List ℕ) → dates_in (contents_of (files trains) folder) (codes "ALL" ∷ []) ≡ Ok (record { services = codes "ALL" ∷ []; rows = [] })
unfolding dates_in table_named calendar_table
dates-in trains folder = refl

-- no changes
transfers-in : (trains : ℕ) (folder : List ℕ) (stops : List StopRow) → transfers_in (contents_of (files trains) folder) stops ≡ Ok []
unfolding transfers_in table_named
transfers-in trains folder stops = refl

-- each train waits for every other one
abbrev every_train : RuleRow
every_train = record { feeder = None; connecting = None; stop = None; max_wait = 120 }

rules-in : (trains : ℕ) (folder : List ℕ) (stops : List StopRow) → rules_in (contents_of (files trains) folder) stops (codes "R" ∷ []) ≡ Ok (record { routes = codes "R" ∷ []; rows = every_train ∷ [] })
unfolding rules_in table_named waiting_rules_table records_of records_from next_record strip_bom table_from rows_from chars encode is_utf8 digits_after
rules-in trains folder stops = refl

frequencies-in : (trains : ℕ) (folder : List ℕ) → frequencies_in (contents_of (files trains) folder) ≡ Ok tt
unfolding frequencies_in table_named
frequencies-in trains folder = refl

abbrev pub made_tables : ℕ → ℕ → Tables
made_tables trains places = record {
  stops = map stop (numbers places);
  routes = codes "R" ∷ [];
  services = codes "ALL" ∷ [];
  trips = map trip (numbers trains);
  calls = map (of_row call) (numbers (4 * trains));
  calendar = every_day ∷ [];
  dates = [];
  transfers = [];
  rules = every_train ∷ [];
}

-- all tables of the feed
pub tables-in : (trains : ℕ) (folder : List ℕ) (places : ℕ) → 1 ≤ trains → trains ≤ 100000 → places ≡ 100 → tables_of (contents_of (files trains) folder) ≡ Ok (made_tables trains places)
unfolding tables_of
tables-in trains folder places some few are =
    let stops = map stop (numbers places) in
    rw (stops-in trains folder places are, trips-in trains folder some few, calls-in trains folder places few are, calendar-in trains folder, dates-in trains folder, transfers-in trains folder stops, rules-in trains folder stops, frequencies-in trains folder) refl
