-- What is spelled is read back.
use Rattle.std.proofs.Common.{◌≡◌, ◌==◌, ◌||◌, ℕ, suc, ◌+◌, ◌*◌, ◌/◌, ◌%◌, ◌^◌, ◌<◌, ◌≤◌, Bool, true, false, Option, Some, None, IfSome, Ok, List, [], ◌∷◌, length, All, inl, inr, refl, ap, arith}
use Rattle.std.specs.List.{AllByRecursion}
use Rattle.std.proofs.lemmas.Bool.{le-leb}
use Rattle.std.proofs.lemmas.Bool.Decides.{nat_tests}
use Rattle.std.proofs.lemmas.List.Elements.{recursion_from_All}
use Rattle.std.proofs.lemmas.Int.{ints}
use Rattle.mt_base.specs.Civil.{IsCivil, is_civil}
use Rattle.train_nodes.specs.declared.kinds.ValueKind.{ValueKind}
use Rattle.train_nodes.specs.declared.kinds.ValueKind.TheVariants as values
use Rattle.message_reader.specs.declared.wire.WireCall.{WireCall}
use Rattle.message_reader.specs.declared.wire.WireRef.{WireRef}
use Rattle.message_reader.specs.declared.wire.Connect.{Connect as AConnect}
use Rattle.message_reader.specs.declared.wire.Connect.TheVariants as connects
use Rattle.message_reader.specs.declared.wire.Wire.{Wire}
use Rattle.message_reader.specs.declared.wire.Wire.TheVariants.{Event, Correct, Withdraw, Cancel, Reroute, Extra, Connect}
use Rattle.message_reader.specs.declared.wire.Line.TheVariants.{Message, Query}
use Rattle.message_reader.specs.declared.wire.WireQuery.{WireQuery}
use Rattle.message_reader.specs.declared.wire.WireTime.{WireTime}
use Rattle.schedule_build.specs.Directory.{Names, day_named, base_of}
use Rattle.mt_base.specs.Texts.{digit, two, below, clock, seconds_of, eight_digits, date_of}
use Rattle.message_reader.specs.Kinds.{kind_of, has_version}
use Rattle.message_reader.specs.Lines.{head_of, message_of, said_by_value}
use Rattle.message_reader.specs.Messages.{named_event, event_of, correct_of, withdraw_of, cancel_of, ref_texts, ref_of, connect_of, call_texts, call_of, calls_shape, calls_of, count, reroute_of, extra_of}
use Rattle.message_reader.specs.Queries.{wire_time_of, query_of}
use Rattle.message_reader.specs.ResolvedQueries.{stop_or_station_named, query_resolved}
use Rattle.message_reader.specs.Spelled.{time_text, date_text, ref_object, call_object, call_objects, object_of, query_object, IsVersion, CanBeSaidIn, HasLabels}
use Rattle.message_reader.specs.Wires.{IsWireCall, IsProper}

pub digit_back : (k : ℕ) → k < 10 → digit (48 + k) ≡ Some k
digit_back k lt = grind (arith, nat_tests)

pub two_back : (n : ℕ) → n < 100 → two (48 + n / 10) (48 + n % 10) ≡ Some n
two_back n lt =
    let sum : 10 * (n / 10) + n % 10 ≡ n = omega arith in
    rw (digit_back (n / 10) (omega arith), digit_back (n % 10) (omega arith)) (ap (λ (m : ℕ). Some m) sum)

pub below_back : (n : ℕ) → n < 60 → below 60 n ≡ Some n
below_back n lt = grind (arith, nat_tests)

pub times_back : (s : ℕ) → s ≤ 359999 → seconds_of (time_text s) ≡ Some s
unfolding seconds_of clock time_text
times_back s le =
    let sum : 3600 * (s / 3600) + 60 * (s / 60 % 60) + s % 60 ≡ s = omega arith in
    rw (two_back (s / 3600) (omega arith), two_back (s / 60 % 60) (omega arith), below_back (s / 60 % 60) (omega arith), two_back (s % 60) (omega arith), below_back (s % 60) (omega arith))
    (ap (λ (m : ℕ). Some m) sum)

year_below : (date : ℕ) → IsCivil date → date < 100000000
year_below date civil = omega (arith, ints)

civil_tested : (date : ℕ) → IsCivil date → is_civil date ≡ true
civil_tested date civil =
    let small = year_below date civil in
    grind (arith, nat_tests, ints)

pub dates_back : (date : ℕ) → IsCivil date → date_of (date_text date) ≡ Some date
unfolding date_of eight_digits date_text
dates_back date civil =
    let small = year_below date civil in
    let sum : 1000000 * (date / 1000000) + 10000 * (date / 10000 % 100) + 100 * (date / 100 % 100) + date % 100 ≡ date = omega arith in
    rw (two_back (date / 1000000) (omega arith), two_back (date / 10000 % 100) (omega arith), two_back (date / 100 % 100) (omega arith), two_back (date % 100) (omega arith), sum, civil_tested date civil) refl

pub label_back : (n : ℕ) → n < 2 ^ 32 → below (2 ^ 32) n ≡ Some n
label_back n lt = grind (arith, nat_tests)

-- ---- messages

pub version_tested : (v : ℕ) → IsVersion v → ((v == 1) || (v == 2)) ≡ true
version_tested v (inl one) = rw one refl
version_tested v (inr two) = rw two refl

event_back : (v : ℕ) (kind : ValueKind) (trip : List ℕ) (date call : ℕ) (dep : Bool) (secs : ℕ) → IsVersion v → IsCivil date → secs ≤ 359999 → call < 2 ^ 32
    → said_by_value (object_of v (Event kind trip date call dep secs)) ≡ Ok (Message (Event kind trip date call dep secs))
unfolding said_by_value head_of kind_of has_version message_of event_of named_event
event_back v values.Report trip date call true secs is civil le lt = rw (version_tested v is, label_back call lt, dates_back date civil, times_back secs le) refl
event_back v values.Report trip date call false secs is civil le lt = rw (version_tested v is, label_back call lt, dates_back date civil, times_back secs le) refl
event_back v values.Forecast trip date call true secs is civil le lt = rw (version_tested v is, label_back call lt, dates_back date civil, times_back secs le) refl
event_back v values.Forecast trip date call false secs is civil le lt = rw (version_tested v is, label_back call lt, dates_back date civil, times_back secs le) refl

correct_back : (trip : List ℕ) (date call : ℕ) (dep : Bool) (secs : Option ℕ) → IsCivil date → IfSome secs (λ s. s ≤ 359999) → call < 2 ^ 32
    → said_by_value (object_of 2 (Correct trip date call dep secs)) ≡ Ok (Message (Correct trip date call dep secs))
unfolding said_by_value head_of kind_of has_version message_of correct_of named_event
correct_back trip date call true (Some secs) civil le lt = rw (label_back call lt, dates_back date civil, times_back secs le) refl
correct_back trip date call false (Some secs) civil le lt = rw (label_back call lt, dates_back date civil, times_back secs le) refl
correct_back trip date call true None civil le lt = rw (label_back call lt, dates_back date civil) refl
correct_back trip date call false None civil le lt = rw (label_back call lt, dates_back date civil) refl

withdraw_back : (trip : List ℕ) (date call : ℕ) (dep : Bool) → IsCivil date → call < 2 ^ 32
    → said_by_value (object_of 2 (Withdraw trip date call dep)) ≡ Ok (Message (Withdraw trip date call dep))
unfolding said_by_value head_of kind_of has_version message_of withdraw_of named_event
withdraw_back trip date call true civil lt = rw (label_back call lt, dates_back date civil) refl
withdraw_back trip date call false civil lt = rw (label_back call lt, dates_back date civil) refl

cancel_back : (v : ℕ) (trip : List ℕ) (date from to : ℕ) → IsVersion v → IsCivil date → from < 2 ^ 32 → to < 2 ^ 32
    → said_by_value (object_of v (Cancel trip date from to)) ≡ Ok (Message (Cancel trip date from to))
unfolding said_by_value head_of kind_of has_version message_of cancel_of
cancel_back v trip date from to is civil lt lt' = rw (version_tested v is, label_back from lt, label_back to lt', dates_back date civil) refl

ref_texts_back : (r : WireRef) → r.call < 2 ^ 32 → ref_texts (ref_object r) ≡ Ok (record { trip = r.trip; date = date_text r.date; call = r.call })
unfolding ref_texts
ref_texts_back r lt = rw (label_back r.call lt) refl

ref_back : (r : WireRef) → IsCivil r.date → ref_of (record { trip = r.trip; date = date_text r.date; call = r.call }) ≡ Ok r
unfolding ref_of
ref_back r civil = rw (dates_back r.date civil) refl

connect_back : (v : ℕ) (kind : AConnect) (feeder train : WireRef) → IsVersion v → IsCivil feeder.date → IsCivil train.date → feeder.call < 2 ^ 32 → train.call < 2 ^ 32
    → said_by_value (object_of v (Connect kind feeder train)) ≡ Ok (Message (Connect kind feeder train))
unfolding said_by_value head_of kind_of has_version message_of connect_of
connect_back v connects.Keep feeder train is c c' lt lt' = rw (version_tested v is, ref_texts_back feeder lt, ref_texts_back train lt', ref_back feeder c, ref_back train c') refl
connect_back v connects.Drop feeder train is c c' lt lt' = rw (version_tested v is, ref_texts_back feeder lt, ref_texts_back train lt', ref_back feeder c, ref_back train c') refl
connect_back v connects.Rule feeder train is c c' lt lt' = rw (version_tested v is, ref_texts_back feeder lt, ref_texts_back train lt', ref_back feeder c, ref_back train c') refl

-- ---- lists of calls

shapes_back : (cs : List WireCall) → calls_shape (call_objects cs) ≡ Ok tt
unfolding calls_shape call_objects call_texts
shapes_back [] = refl
shapes_back (c ∷ cs) = shapes_back cs

call_back : (c : WireCall) → IsWireCall c → call_of (call_object c) ≡ Ok c
unfolding call_of call_texts
call_back c is = rw (times_back c.arr is.0, times_back c.dep is.1) refl

calls_back : (cs : List WireCall) → AllByRecursion IsWireCall cs → calls_of (call_objects cs) ≡ Ok cs
unfolding calls_of call_objects
calls_back [] is = refl
calls_back (c ∷ cs) is = rw (call_back c is.0, calls_back cs is.1) refl

counts_back : (cs : List WireCall) → count (call_objects cs) ≡ length cs
unfolding count call_objects
counts_back [] = refl
counts_back (c ∷ cs) = ap suc (counts_back cs)

reroute_back : (v : ℕ) (trip : List ℕ) (date from to : ℕ) (via : List WireCall) → IsVersion v → IsCivil date → All IsWireCall via → from < 2 ^ 32 → to < 2 ^ 32
    → said_by_value (object_of v (Reroute trip date from to via)) ≡ Ok (Message (Reroute trip date from to via))
unfolding said_by_value head_of kind_of has_version message_of reroute_of
reroute_back v trip date from to via is civil each lt lt' =
    rw (version_tested v is, label_back from lt, label_back to lt', shapes_back via, dates_back date civil, calls_back via (recursion_from_All IsWireCall via each)) refl

extra_back : (v : ℕ) (trip : List ℕ) (date : ℕ) (route : List ℕ) (calls : List WireCall) → IsVersion v → IsCivil date → All IsWireCall calls → 2 ≤ length calls
    → said_by_value (object_of v (Extra trip date route calls)) ≡ Ok (Message (Extra trip date route calls))
unfolding said_by_value head_of kind_of has_version message_of extra_of
extra_back v trip date route calls is civil each le =
    rw (version_tested v is, shapes_back calls, counts_back calls, le-leb 2 (length calls) le, dates_back date civil, calls_back calls (recursion_from_All IsWireCall calls each)) refl

pub messages_back : (v : ℕ) (w : Wire) → CanBeSaidIn v w → IsProper w → HasLabels w → said_by_value (object_of v w) ≡ Ok (Message w)
messages_back v (Event kind trip date call dep secs) can is labels = event_back v kind trip date call dep secs can is.0 is.1 labels
messages_back v (Correct trip date call dep secs) can is labels = rw can (correct_back trip date call dep secs is.0 is.1 labels)
messages_back v (Withdraw trip date call dep) can is labels = rw can (withdraw_back trip date call dep is labels)
messages_back v (Cancel trip date from to) can is labels = cancel_back v trip date from to can is labels.0 labels.1
messages_back v (Reroute trip date from to via) can is labels = reroute_back v trip date from to via can is.0 is.1 labels.0 labels.1
messages_back v (Extra trip date route calls) can is labels = extra_back v trip date route calls can is.0 is.1 is.2
messages_back v (Connect kind feeder train) can is labels = connect_back v kind feeder train can is.0 is.1 labels.0 labels.1

-- ---- queries

pub queries_back : (v : ℕ) (client from to : List ℕ) (date secs : ℕ) → IsVersion v → IsCivil date → secs ≤ 359999
    → said_by_value (query_object v client from to date secs) ≡ Ok (Query (record { client = client; from = from; to = to; time = Some (record { date = date; secs = secs }) }))
unfolding said_by_value head_of kind_of has_version message_of query_of wire_time_of
queries_back v client from to date secs is civil le = rw (version_tested v is, dates_back date civil, times_back secs le) refl

pub queries_by_number : (names : Names) (q : WireQuery) (time : WireTime) (from_stop to_stop day : ℕ) → q.time ≡ Some time
    → stop_or_station_named names q.from ≡ Some from_stop → stop_or_station_named names q.to ≡ Some to_stop → day_named names time.date ≡ Some day
    → query_resolved names q ≡ Ok (record { day = day; query = record { from_stop = from_stop; to_stop = to_stop; time = base_of names day + time.secs } })
unfolding query_resolved
queries_by_number names q time from_stop to_stop day is_time is_from is_to is_day = rw (is_from, is_to, is_time, is_day) refl
