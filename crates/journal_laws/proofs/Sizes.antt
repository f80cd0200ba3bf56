-- How long the line of a message is at most.
use Rattle.std.proofs.Common.{◌≡◌, ℕ, ◌+◌, ◌*◌, ◌^◌, ◌<◌, ◌≤◌, Bool, true, false, Option, Some, None, List, [], ◌∷◌, ◌++◌, length, refl, arith}
use Rattle.std.proofs.Common.{length-append}
use Rattle.std.specs.List.{AllByRecursion}
use Rattle.std.specs.Prelude.{codes, decimal}
use Rattle.std.proofs.lemmas.Bool.Decides.{nat_tests}
use Rattle.std.proofs.lemmas.Fmt.{length-decimal-le}
use Rattle.std.proofs.lemmas.List.Elements.{recursion_from_All}
use Rattle.json.specs.Print.{escape, escape_byte, quoted}
use Rattle.serde_json.specs.Data.{Data, null, boolean, number, string, array, object, Members, no_members, member}
use Rattle.serde_json.specs.Written.{comma_if, compact_text, items_text, members_text, number_text}
use Rattle.train_nodes.specs.declared.kinds.ValueKind.{ValueKind}
use Rattle.train_nodes.specs.declared.kinds.ValueKind.TheVariants as values
use Rattle.message_reader.specs.declared.wire.Connect.{Connect as AConnect}
use Rattle.message_reader.specs.declared.wire.Connect.TheVariants as connects
use Rattle.message_reader.specs.declared.wire.Wire.{Wire}
use Rattle.message_reader.specs.declared.wire.Wire.TheVariants.{Event, Correct, Withdraw, Cancel, Reroute, Extra, Connect}
use Rattle.message_reader.specs.declared.wire.WireCall.{WireCall}
use Rattle.message_reader.specs.Spelled.{HasLabels, call_object, call_objects, connect_name, date_text, event_name, object_of, time_or_null, time_text, value_name}
use Rattle.message_reader.specs.Wires.{IsProper, IsWireCall}
use Rattle.journal_lines.specs.Lines.{text_of_message}

-- ---- strings

byte-size : (x : ℕ) → length (escape_byte x) ≤ 6
unfolding escape_byte
byte-size x = grind (arith, nat_tests)

clean-size : (x : ℕ) → 48 ≤ x → x ≤ 58 → length (escape_byte x) ≤ 1
unfolding escape_byte
clean-size x low high = grind (arith, nat_tests)

escape-size : (s : List ℕ) → length (escape s) ≤ 6 * length s
escape-size [] = omega arith
escape-size (x ∷ xs) = omega (arith, byte-size x, escape-size xs, length-append (escape_byte x) (escape xs))

-- a digit or a colon
abbrev IsClean : ℕ → Type 0
IsClean x = (48 ≤ x) × (x ≤ 58)

clean-escape : (s : List ℕ) → AllByRecursion IsClean s → length (escape s) ≤ length s
clean-escape [] h = omega arith
clean-escape (x ∷ xs) h = omega (arith, clean-size x h.0.0 h.0.1, clean-escape xs h.1, length-append (escape_byte x) (escape xs))

quoted-is : (s : List ℕ) → length (quoted s) ≡ length (escape s) + 2
quoted-is s = omega (arith, length-append (escape s) (34 ∷ []))

pub quoted-size : (s : List ℕ) → length (quoted s) ≤ 6 * length s + 2
quoted-size s = omega (arith, quoted-is s, escape-size s)

pub date-size : (date : ℕ) → length (quoted (date_text date)) ≤ 50
unfolding date_text
date-size date = quoted-size (date_text date)

time-size : (s : ℕ) → length (quoted (time_text s)) ≤ 50
unfolding time_text
time-size s = quoted-size (time_text s)

clean-time : (s : ℕ) → s ≤ 359999 → AllByRecursion IsClean (time_text s)
unfolding time_text
clean-time s le = grind arith

clock-size : (s : ℕ) → s ≤ 359999 → length (quoted (time_text s)) ≤ 10
unfolding time_text
clock-size s le = omega (arith, quoted-is (time_text s), clean-escape (time_text s) (clean-time s le))

pub label-size : (n : ℕ) → n < 2 ^ 32 → length (decimal n) ≤ 10
label-size n lt = length-decimal-le 10 n (omega arith) (omega arith) (omega arith)

-- ---- a bound for the text of a value

abbrev mutual
  pub size : Data → ℕ
  size null = 4
  size (boolean b) = 5
  size (number n) = length (number_text n)
  size (string s) = length (quoted s)
  size (array ds) = 1 + length (items_text false ds)
  size (object ms) = 1 + members_size ms

  -- with the closing bracket
  pub members_size : Members → ℕ
  members_size no_members = 1
  members_size (member k d ms) = 6 * length k + 4 + (size d + members_size ms)

comma-size : (later : Bool) → length (comma_if later) ≤ 1
comma-size true = omega arith
comma-size false = omega arith

joined-size : (a q c m : List ℕ) → length (a ++ (q ++ 58 ∷ (c ++ m))) ≡ length a + (length q + (1 + (length c + length m)))
joined-size a q c m = omega (arith, length-append a (q ++ 58 ∷ (c ++ m)), length-append q (58 ∷ (c ++ m)), length-append c m)

mutual
  pub data-size : (d : Data) → length (compact_text d) ≤ size d
  data-size null = omega arith
  data-size (boolean true) = omega arith
  data-size (boolean false) = omega arith
  data-size (number n) = omega arith
  data-size (string s) = omega arith
  data-size (array ds) = omega arith
  data-size (object ms) = omega (arith, members-bound false ms)

  members-bound : (later : Bool) (ms : Members) → length (members_text later ms) ≤ members_size ms
  members-bound later no_members = omega arith
  members-bound later (member k d ms) =
      omega (arith, joined-size (comma_if later) (quoted k) (compact_text d) (members_text true ms), comma-size later, quoted-size k, data-size d, members-bound true ms)

-- ---- the calls of a list

-- for each call, what the object that it was read of weighs at least
abbrev pub calls_weight : List WireCall → ℕ
calls_weight [] = 0
calls_weight (c ∷ cs) = 7 + length c.stop + calls_weight cs

arr-size : length (quoted (codes "arr")) ≡ 5
unfolding escape_byte
arr-size = refl

dep-size : length (quoted (codes "dep")) ≡ 5
unfolding escape_byte
dep-size = refl

stop-size : length (quoted (codes "stop")) ≡ 6
unfolding escape_byte
stop-size = refl

call-size : (c : WireCall) → IsWireCall c → length (compact_text (call_object c)) ≤ 46 + 6 * length c.stop
call-size c is =
    let last : Members = member (codes "stop") (string c.stop) no_members in
    let later : Members = member (codes "dep") (string (time_text c.dep)) last in
    let first = joined-size [] (quoted (codes "arr")) (quoted (time_text c.arr)) (members_text true later) in
    let second = joined-size (44 ∷ []) (quoted (codes "dep")) (quoted (time_text c.dep)) (members_text true last) in
    let third = joined-size (44 ∷ []) (quoted (codes "stop")) (quoted c.stop) (125 ∷ []) in
    omega (arith, first, second, third, arr-size, dep-size, stop-size, clock-size c.arr is.0, clock-size c.dep is.1, quoted-size c.stop)

calls-size : (later : Bool) (cs : List WireCall) → AllByRecursion IsWireCall cs → length (items_text later (call_objects cs)) ≤ 7 * calls_weight cs + 1
unfolding call_objects
calls-size later [] h = omega arith
calls-size later (c ∷ cs) h =
    let text : List ℕ = compact_text (call_object c) in
    let rest : List ℕ = items_text true (call_objects cs) in
    omega (arith, length-append (comma_if later) (text ++ rest), length-append text rest, comma-size later, call-size c h.0, calls-size true cs h.1)

-- ---- the line of a message

-- the names of a message, and what its calls weigh
abbrev pub HasRoom : ℕ → Wire → Type 0
HasRoom n (Event kind trip date call dep secs) = length trip ≤ n
HasRoom n (Correct trip date call dep secs) = length trip ≤ n
HasRoom n (Withdraw trip date call dep) = length trip ≤ n
HasRoom n (Cancel trip date from to) = length trip ≤ n
HasRoom n (Reroute trip date from to via) = (length trip ≤ n) × (calls_weight via ≤ n)
HasRoom n (Extra trip date route calls) = (length trip + length route ≤ n) × (calls_weight calls ≤ n)
HasRoom n (Connect kind feeder train) = (length feeder.trip ≤ n) × (length train.trip ≤ n)

line-size : (n : ℕ) (w : Wire) → size (object_of 2 w) ≤ n → length (text_of_message w) ≤ n + 1
unfolding text_of_message
line-size n w le = omega (arith, length-append (compact_text (object_of 2 w)) (10 ∷ []), data-size (object_of 2 w))

event-word : (dep : Bool) → length (quoted (event_name dep)) ≤ 20
event-word true = quoted-size (codes "dep")
event-word false = quoted-size (codes "arr")

value-word : (kind : ValueKind) → length (quoted (value_name kind)) ≤ 50
value-word values.Report = omega (arith, quoted-size (codes "report"))
value-word values.Forecast = quoted-size (codes "forecast")

connect-word : (kind : AConnect) → length (quoted (connect_name kind)) ≤ 26
connect-word connects.Keep = quoted-size (codes "keep")
connect-word connects.Drop = quoted-size (codes "drop")
connect-word connects.Rule = quoted-size (codes "rule")

time-word : (o : Option ℕ) → size (time_or_null o) ≤ 50
time-word None = omega arith
time-word (Some secs) = time-size secs

message-size : (n : ℕ) (w : Wire) → IsProper w → HasLabels w → HasRoom n w → size (object_of 2 w) ≤ 13 * n + 900
message-size n (Event kind trip date call dep secs) proper labels room =
    omega (arith, label-size call labels, date-size date, event-word dep, time-size secs, quoted-size trip, value-word kind, label-size 2 (omega arith))
message-size n (Correct trip date call dep secs) proper labels room =
    omega (arith, label-size call labels, date-size date, event-word dep, time-word secs, quoted-size trip, quoted-size (codes "correct"), label-size 2 (omega arith))
message-size n (Withdraw trip date call dep) proper labels room =
    omega (arith, label-size call labels, date-size date, event-word dep, quoted-size trip, quoted-size (codes "withdraw"), label-size 2 (omega arith))
message-size n (Cancel trip date from to) proper labels room =
    omega (arith, label-size from labels.0, label-size to labels.1, date-size date, quoted-size trip, quoted-size (codes "cancel"), label-size 2 (omega arith))
message-size n (Reroute trip date from to via) proper labels room =
    omega (
      arith,
      label-size from labels.0,
      label-size to labels.1,
      date-size date,
      quoted-size trip,
      quoted-size (codes "reroute"),
      label-size 2 (omega arith),
      calls-size false via (recursion_from_All IsWireCall via proper.1),
      room.0,
      room.1,
    )
message-size n (Extra trip date route calls) proper labels room =
    omega (
      arith,
      date-size date,
      quoted-size trip,
      quoted-size route,
      quoted-size (codes "extra"),
      label-size 2 (omega arith),
      calls-size false calls
          (recursion_from_All IsWireCall calls proper.1),
      room.0,
      room.1,
    )
message-size n (Connect kind feeder train) proper labels room =
    omega (
      arith,
      label-size feeder.call labels.0,
      label-size train.call labels.1,
      date-size feeder.date,
      date-size train.date,
      quoted-size feeder.trip,
      quoted-size train.trip,
      connect-word kind,
      label-size 2 (omega arith),
      room.0,
      room.1,
    )

pub message-line-size : (n : ℕ) (w : Wire) → IsProper w → HasLabels w → HasRoom n w → length (text_of_message w) ≤ 13 * n + 901
message-line-size n w proper labels room = omega (arith, line-size (13 * n + 900) w (message-size n w proper labels room))
