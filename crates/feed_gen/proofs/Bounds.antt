-- How many bytes the tables have.
use Rattle.std.proofs.Common.{◌≡◌, ◌<◌, ◌≤◌, ℕ, ◌+◌, Bool, true, false, cond, List, [], ◌∷◌, length, codes, arith, subst, length-append, Option, Some, None}
use Rattle.std.proofs.lemmas.Fmt.{length-decimal-le}
use Rattle.std.specs.Prelude.{decimal, IfSome, bytes_eq, option_map}
use Rattle.feed_gen.specs.Laws.{TablesAreShort}
use Rattle.feed_gen.specs.Tables.{call_row, calendar_table, files, row, stop_row, stop_times_table, stops_table, table_named, train_rows, trip_row, trips_table, waiting_rules_table}
use Rattle.feed_gen.specs.Texts.{clock, texts_below}
use Rattle.feed_gen.specs.Trains.{arrival, departure, stop_of}
use Rattle.feed_gen.proofs.RowLemmas.{length-clock, length-four, length-texts}

-- a number of at most six digits
pub length-number : (n : ℕ) → n < 1000000 → length (decimal n) ≤ 6
length-number n small = length-decimal-le 6 n (omega arith) (omega arith) (omega arith)

length-stop_row : (stop : ℕ) → stop < 1000000 → length (stop_row stop) ≤ 240
length-stop_row stop small = omega (arith, length-append (decimal stop) (10 ∷ []), length-number stop small)

length-trip_row : (train : ℕ) → train < 1000000 → length (trip_row train) ≤ 240
length-trip_row train small = omega (arith, length-append (decimal train) (10 ∷ []), length-number train small)

pub stop-small : (train call : ℕ) → stop_of train call < 1000000
stop-small train call = omega arith

-- five fields with a comma between each two, and an LF
length-five : (a b c d e : List ℕ) → length (row (a ∷ b ∷ c ∷ d ∷ e ∷ [])) ≡ length a + length b + length c + length d + length e + 5
length-five a b c d e = simp length-append (omega arith)

length-call_row : (train call : ℕ) → train < 1000000 → call < 4 → length (call_row train call) ≤ 60
length-call_row train call small few =
    omega (arith, length-five (71 ∷ decimal train) (clock (arrival train call)) (clock (departure train call)) (83 ∷ decimal (stop_of train call)) (decimal call), length-clock (arrival train call), length-clock (departure train call), length-number train small, length-number (stop_of train call) (stop-small train call), length-number call (omega arith))

length-stops : length stops_table ≤ 268435456
unfolding stops_table
length-stops = omega (arith, length-append (codes "stop_id\n") (texts_below stop_row 100), length-texts stop_row 100 (λ k l. length-stop_row k (omega arith)))

length-trips : (trains : ℕ) → trains ≤ 100000 → length (trips_table trains) ≤ 268435456
unfolding trips_table
length-trips trains few =
    omega (arith, length-append (codes "route_id,service_id,trip_id\n") (texts_below trip_row trains), length-texts trip_row trains (λ k l. length-trip_row k (omega arith)))

length-stop_times : (trains : ℕ) → trains ≤ 100000 → length (stop_times_table trains) ≤ 268435456
unfolding stop_times_table
length-stop_times trains few =
    omega (arith, length-append (codes "trip_id,arrival_time,departure_time,stop_id,stop_sequence\n") (texts_below train_rows trains), length-texts train_rows trains (λ k l. length-four (call_row k) (λ call m. length-call_row k call (omega arith) m)))

length-calendar : length calendar_table ≤ 268435456
unfolding calendar_table
length-calendar = omega arith

length-waiting_rules : length waiting_rules_table ≤ 268435456
unfolding waiting_rules_table
length-waiting_rules = omega arith

-- the first of five tables whose test holds, where all of them are short
first-short : (a b c d e : Bool) (p q r s t : List ℕ) → length p ≤ 268435456 → length q ≤ 268435456 → length r ≤ 268435456 → length s ≤ 268435456 → length t ≤ 268435456
    → IfSome (cond a (Some p) (cond b (Some q) (cond c (Some r) (cond d (Some s) (cond e (Some t) None))))) (λ table. length table ≤ 268435456)
first-short true b c d e p q r s t hp hq hr hs ht = hp
first-short false true c d e p q r s t hp hq hr hs ht = hq
first-short false false true d e p q r s t hp hq hr hs ht = hr
first-short false false false true e p q r s t hp hq hr hs ht = hs
first-short false false false false true p q r s t hp hq hr hs ht = ht
first-short false false false false false p q r s t hp hq hr hs ht = tt

-- no table has more bytes than a table may have
pub tables-short : TablesAreShort
unfolding table_named
tables-short trains folder name few =
    first-short (bytes_eq name (codes "stops.txt")) (bytes_eq name (codes "trips.txt")) (bytes_eq name (codes "stop_times.txt")) (bytes_eq name (codes "calendar.txt")) (bytes_eq name (codes "waiting_rules.txt")) stops_table (trips_table trains) (stop_times_table trains) calendar_table waiting_rules_table
    length-stops (length-trips trains few) (length-stop_times trains few) length-calendar length-waiting_rules

-- so the table that was made is short
pub short-made : {V : Type 0} (items : V → List ℕ) (made : Option V) (trains : ℕ) (folder name : List ℕ) → trains ≤ 100000 → files trains folder name ≡ option_map items made → IfSome made (λ v. length (items v) ≤ 268435456)
short-made items None trains folder name few is = tt
short-made items (Some v) trains folder name few is =
    subst (λ (o : Option (List ℕ)). IfSome o (λ table. length table ≤ 268435456)) is (tables-short trains folder name few)
