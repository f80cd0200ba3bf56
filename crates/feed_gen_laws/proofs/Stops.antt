-- The stops that the feed holds, computed from the bytes of their table.
use Rattle.feed_gen_laws.proofs.Words.{List, None, Ok, Some, StopRow, chars, contents_of, encode, files, is_utf8, map, next_record, records_from, records_of, refl, rows_from, stop_name, stop_named, strip_bom, sym, table_from, table_named, texts_below, ℕ, ◌<◌, ◌≡◌, ◌≤◌}
use Rattle.std.proofs.Common.{subst}
use Rattle.std.specs.Fmt.{digits}
use Rattle.feed_gen.specs.Tables.{stops_table}
use Rattle.gtfs_tables.specs.Feeds.{stops_in}
use Rattle.gtfs_tables.specs.Stops.{stop_ids, stops_of, with_stations}
use Rattle.mt_base.specs.declared.places.PlaceKind.TheVariants.{Platform}
use Rattle.feed_gen_laws.proofs.Names.{apart, name-found}
use Rattle.feed_gen_laws.proofs.Rows.{numbers}
use Rattle.feed_gen_laws.proofs.Steps.{at-place, map-map}

-- each stop is a platform of no station
abbrev pub stop : ℕ → StopRow
stop k = record { id = stop_name k; kind = Platform; parent = None }

hundred-stops : (trains : ℕ) (folder : List ℕ) → stops_in (contents_of (files trains) folder) ≡ Ok (map stop (numbers 100))
unfolding stops_in table_named stops_table texts_below digits records_of records_from next_record strip_bom table_from rows_from chars encode is_utf8 stops_of with_stations
hundred-stops trains folder = refl

-- the same, with a name for how many there are, lest a proof about them unfold all of them
pub stops-in : (trains : ℕ) (folder : List ℕ) (places : ℕ) → places ≡ 100 → stops_in (contents_of (files trains) folder) ≡ Ok (map stop (numbers places))
stops-in trains folder places are = subst (λ n. stops_in (contents_of (files trains) folder) ≡ Ok (map stop (numbers n))) (sym are) (hundred-stops trains folder)

-- a stop is found by its name
pub stop-found : (places k : ℕ) → places ≤ 1000000 → k < places → stop_named (map stop (numbers places)) (stop_name k) ≡ Some k
stop-found places k few small =
    let ids : stop_ids (map stop (numbers places)) ≡ map stop_name (numbers places) = map-map (λ (r : StopRow). r.id) stop (numbers places) in
    rw (ids, name-found stop_name 1000000 (apart 83) places k few small, at-place stop places k small) refl
