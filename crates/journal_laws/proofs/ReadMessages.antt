-- What is true of every message that a line says: it can be written.
use Rattle.std.proofs.Common.{◌≡◌, ℕ, suc, ◌+◌, ◌*◌, ◌^◌, ◌<◌, ◌≤◌, ◌==◌, ◌&&◌, nat_lt, nat_le, Bool, true, false, IfSome, if◌then◌else◌}
use Rattle.std.proofs.Common.{List, [], ◌∷◌, length, All}
use Rattle.std.proofs.Common.{Option, Some, None, option_and_then, option_map, Result, Ok, Err, IsUtf8, refl, ap, subst, arith}
use Rattle.std.proofs.lemmas.Bool.{cond_both, leb-true, ltb-true}
use Rattle.std.proofs.lemmas.Bool.Decides.{nat_tests}
use Rattle.std.proofs.lemmas.Int.{ints}
use Rattle.std.proofs.lemmas.List.Elements.{All-cons, All-nil}
use Rattle.std.proofs.lemmas.Str.{is_utf8-from_IsUtf8}
use Rattle.std.specs.Prelude.{bytes_eq, codes, ⊤}
use Rattle.std.specs.Str.{is_utf8}
use Rattle.mt_base.specs.Civil.{is_civil, IsCivil}
use Rattle.mt_base.specs.Texts.{below, clock, date_of, digit, eight_digits, seconds_of, two}
use Rattle.serde_json.specs.Data.{Data, Items, no_items, item}
use Rattle.serde_json.specs.Find.{get}
use Rattle.serde_json.specs.Read.{read}
use Rattle.train_nodes.specs.declared.kinds.ValueKind.{ValueKind}
use Rattle.train_nodes.specs.declared.kinds.ValueKind.TheVariants as values
use Rattle.message_reader.specs.declared.bad_line.BadLine.{BadLine}
use Rattle.message_reader.specs.declared.bad_line.BadLine.TheVariants.{Json, Shape, Time, Utf8}
use Rattle.message_reader.specs.declared.wire.Connect.{Connect as AConnect}
use Rattle.message_reader.specs.declared.wire.Connect.TheVariants as connects
use Rattle.message_reader.specs.declared.wire.Line.{Line}
use Rattle.message_reader.specs.declared.wire.Line.TheVariants.{Message, Query, Flush}
use Rattle.message_reader.specs.declared.wire.Wire.{Wire}
use Rattle.message_reader.specs.declared.wire.WireCall.{WireCall}
use Rattle.message_reader.specs.declared.wire.WireRef.{WireRef}
use Rattle.message_reader.specs.Chain.{◌>>=◌, need, unless}
use Rattle.message_reader.specs.Fields.{departure_of, items_at, label_at, number_at, text_at, text_or_null_at}
use Rattle.message_reader.specs.Kinds.{has_version, kind_of}
use Rattle.message_reader.specs.Lines.{head_of, json_of, line_of, message_of, said_by_value, utf8_of}
use Rattle.message_reader.specs.Messages.{NamedEvent, named_event, event_of, seconds_if_any, correct_of, withdraw_of, cancel_of, RefTexts, ref_texts, ref_of, connect_of}
use Rattle.message_reader.specs.Messages.{CallTexts, call_texts, call_of, calls_shape, calls_of, count, reroute_of, extra_of}
use Rattle.message_reader.specs.Queries.{query_of}
use Rattle.message_reader.specs.Spelled.{HasLabels}
use Rattle.message_reader.specs.Wires.{IsProper, IsWireCall}
use Rattle.journal_lines.specs.Lines.{HasStopText, HasTexts}
use Rattle.journal_replay.specs.Journals.{CanBeWritten}
use Rattle.journal_laws.proofs.Sizes.{HasRoom, calls_weight, message-line-size}
use Rattle.journal_laws.proofs.Texts.{If, any, chained, looser}
use Rattle.journal_laws.proofs.Weights.{data_weight, get-weight, items-weight, items_weight, text-weight, two-texts, weight-read}
use Rattle.journal_laws.proofs.ReadTexts.{TextData, TextItems, get-text, items-in, text-in, texts-read}

-- ---- numbers, times and dates

abbrev Below : ℕ → ℕ → Type 0
Below bound n = n < bound

below-is : (bound n : ℕ) → If (Below bound) (below bound n)
below-is bound n = cond_both (nat_lt n bound) (Some n) None (If (Below bound)) (λ lt. ltb-true n bound lt) (λ lt. tt)

digit-is : (b : ℕ) → If (Below 10) (digit b)
digit-is b = grind (arith, nat_tests)

two-is : (a b : ℕ) → If (Below 100) (two a b)
two-is a b = chained (Below 10) (Below 100) _ (λ tens few. chained (Below 10) (Below 100) _ (λ ones less. omega arith) (digit b) (digit-is b)) (digit a) (digit-is a)

sixty : (o : Option ℕ) → If (Below 60) (option_and_then (below 60) o)
sixty None = tt
sixty (Some n) = below-is 60 n

clock-is : (hours : ℕ) (bytes : List ℕ) → If (Below (3600 * hours + 3600)) (clock hours bytes)
unfolding clock
clock-is hours [] = tt
clock-is hours (x ∷ []) = tt
clock-is hours (x ∷ a ∷ []) = tt
clock-is hours (x ∷ a ∷ b ∷ []) = tt
clock-is hours (x ∷ a ∷ b ∷ y ∷ []) = tt
clock-is hours (x ∷ a ∷ b ∷ y ∷ c ∷ []) = tt
clock-is hours (x ∷ a ∷ b ∷ y ∷ c ∷ d ∷ []) =
    let Q : ℕ → Type 0 = Below (3600 * hours + 3600) in
    cond_both ((x == 58) && (y == 58)) _ None (If Q) (λ e.
    chained (Below 60) Q _ (λ m few. chained (Below 60) Q _ (λ s less. omega arith) (option_and_then (below 60) (two c d)) (sixty (two c d)))
    (option_and_then (below 60) (two a b)) (sixty (two a b))) (λ e. tt)
clock-is hours (x ∷ a ∷ b ∷ y ∷ c ∷ d ∷ e ∷ rest) = tt

abbrev IsTime : ℕ → Type 0
IsTime s = s ≤ 359999

hour-is : (hours : ℕ) (bytes : List ℕ) → hours < 100 → If IsTime (clock hours bytes)
hour-is hours bytes few = looser (Below (3600 * hours + 3600)) IsTime (λ s lt. omega arith) (clock hours bytes) (clock-is hours bytes)

seconds-are : (bytes : List ℕ) → If IsTime (seconds_of bytes)
unfolding seconds_of
seconds-are [] = tt
seconds-are (h ∷ []) = tt
seconds-are (g ∷ h ∷ rest) =
    cond_both (length rest == 5) _ _ (If IsTime) (λ e. chained (Below 10) IsTime _ (λ hours few. hour-is hours (h ∷ rest) (omega arith)) (digit g) (digit-is g))
    (λ e. chained (Below 100) IsTime _ (λ hours few. hour-is hours rest few) (two g h) (two-is g h))

civil-tested : (date : ℕ) → is_civil date ≡ true → IsCivil date
civil-tested date is = grind (arith, nat_tests, ints)

date-is : (bytes : List ℕ) → If IsCivil (date_of bytes)
unfolding date_of
date-is bytes = chained (λ _. ⊤) IsCivil _ (λ date h. cond_both (is_civil date) (Some date) None (If IsCivil) (civil-tested date) (λ e. tt)) (eight_digits bytes) (any (eight_digits bytes))

label-is : (k : List ℕ) (d : Data) → If (Below (2 ^ 32)) (label_at k d)
label-is k d = chained (λ _. ⊤) (Below (2 ^ 32)) (below (2 ^ 32)) (λ n h. below-is (2 ^ 32) n) (number_at k d) (any (number_at k d))

-- ---- what is said, unless there is a fault

abbrev pub Said : {A E : Type 0} → (A → Type 0) → Result A E → Type 0
Said P (Ok a) = P a
Said P (Err e) = ⊤

behind : {A B E : Type 0} (P : A → Type 0) (Q : B → Type 0) (f : A → Result B E) (r : Result A E) → Said P r → ((a : A) → P a → Said Q (f a)) → Said Q (r >>= f)
behind P Q f (Ok a) h k = k a h
behind P Q f (Err e) h k = tt

needed : {A E : Type 0} (P : A → Type 0) (cause : E) (o : Option A) → If P o → Said P (need cause o)
needed P cause None h = tt
needed P cause (Some a) h = h

abbrev IsText : List ℕ → Type 0
IsText s = is_utf8 s ≡ true

-- the strings in the value are texts, and it weighs at most so much
record IsWithin (n : ℕ) (d : Data) : Type 0 where
  texts : TextData d
  light : data_weight d ≤ n

-- the string is this member of the object, and a text
record IsTextAt (k : List ℕ) (d : Data) (s : List ℕ) : Type 0 where
  utf8 : IsText s
  weighs : 3 + length k + length s ≤ data_weight d
  is : text_at k d ≡ Some s

text-there : (k : List ℕ) (d : Data) (o : Option (List ℕ)) → If IsUtf8 o → If (λ s. 3 + length k + length s ≤ data_weight d) o → text_at k d ≡ o → If (IsTextAt k d) o
text-there k d None u le is = tt
text-there k d (Some s) u le is = record { utf8 = is_utf8-from_IsUtf8 s u; weighs = le; is = is }

-- the list is in a value that weighs at most so much
record AreWithin (n : ℕ) (ds : Items) : Type 0 where
  texts : TextItems ds
  light : items_weight ds ≤ n

items-there : (n : ℕ) (d : Data) (o : Option Items) → data_weight d ≤ n → If TextItems o → If (λ ds. items_weight ds ≤ data_weight d) o → If (AreWithin n) o
items-there n d None few h le = tt
items-there n d (Some ds) few h le = record { texts = h; light = omega arith }

object-there : (n : ℕ) (k : List ℕ) (d : Data) (o : Option Data) → data_weight d ≤ n → If TextData o → If (λ e. 2 + length k + data_weight e ≤ data_weight d) o
    → If (IsWithin n) o
object-there n k d None few h le = tt
object-there n k d (Some e) few h le = record { texts = h; light = omega arith }

-- a needed member of an object, and behind it what is read next
module _ {B : Type 0} (n : ℕ) (Q : B → Type 0) where
  with-text : (f : List ℕ → Result B BadLine) (k : List ℕ) (d : Data) → IsWithin n d → ((s : List ℕ) → IsTextAt k d s → Said Q (f s)) → Said Q (need Shape (text_at k d) >>= f)
  with-text f k d h next =
      behind (IsTextAt k d) Q f (need Shape (text_at k d)) (needed (IsTextAt k d) Shape (text_at k d) (text-there k d (text_at k d) (text-in k d h.texts) (text-weight k d) refl)) next

  with-items : (f : Items → Result B BadLine) (k : List ℕ) (d : Data) → IsWithin n d → ((ds : Items) → AreWithin n ds → Said Q (f ds)) → Said Q (need Shape (items_at k d) >>= f)
  with-items f k d h next =
      behind (AreWithin n) Q f (need Shape (items_at k d)) (needed (AreWithin n) Shape (items_at k d) (items-there n d (items_at k d) h.light (items-in k d h.texts) (items-weight k d))) next

  with-object : (f : Data → Result B BadLine) (k : List ℕ) (d : Data) → IsWithin n d → ((e : Data) → IsWithin n e → Said Q (f e)) → Said Q (need Shape (get k d) >>= f)
  with-object f k d h next =
      behind (IsWithin n) Q f (need Shape (get k d)) (needed (IsWithin n) Shape (get k d) (object-there n k d (get k d) h.light (get-text k d h.texts) (get-weight k d))) next

with-label : {B : Type 0} (Q : B → Type 0) (f : ℕ → Result B BadLine) (k : List ℕ) (d : Data) → ((m : ℕ) → m < 2 ^ 32 → Said Q (f m)) → Said Q (need Shape (label_at k d) >>= f)
with-label Q f k d next = behind (Below (2 ^ 32)) Q f (need Shape (label_at k d)) (needed (Below (2 ^ 32)) Shape (label_at k d) (label-is k d)) next

with-date : {B : Type 0} (Q : B → Type 0) (f : ℕ → Result B BadLine) (text : List ℕ) → ((n : ℕ) → IsCivil n → Said Q (f n)) → Said Q (need Time (date_of text) >>= f)
with-date Q f text next = behind IsCivil Q f (need Time (date_of text)) (needed IsCivil Time (date_of text) (date-is text)) next

with-time : {B : Type 0} (Q : B → Type 0) (f : ℕ → Result B BadLine) (text : List ℕ) → ((n : ℕ) → n ≤ 359999 → Said Q (f n)) → Said Q (need Time (seconds_of text) >>= f)
with-time Q f text next = behind IsTime Q f (need Time (seconds_of text)) (needed IsTime Time (seconds_of text) (seconds-are text)) next

-- any step of which nothing is to be known
with-any : {A B E : Type 0} (Q : B → Type 0) (f : A → Result B E) (r : Result A E) → ((a : A) → Said Q (f a)) → Said Q (r >>= f)
with-any Q f (Ok a) next = next a
with-any Q f (Err e) next = tt

-- ---- messages about events

-- a message is as those that can be written, and has few bytes in its names and few calls
pub record IsReadMessage (n : ℕ) (w : Wire) : Type 0 where
  pub proper : IsProper w
  pub labels : HasLabels w
  pub texts : HasTexts w
  pub room : HasRoom n w

record IsNamed (n : ℕ) (e : NamedEvent) : Type 0 where
  trip : IsText e.trip
  short : length e.trip ≤ n
  call : e.call < 2 ^ 32

named-said : (n : ℕ) (d : Data) → IsWithin n d → Said (IsNamed n) (named_event d)
unfolding named_event
named-said n d h =
    with-text n (IsNamed n) _ (codes "trip") d h (λ trip t. with-text n (IsNamed n) _ (codes "date") d h (λ date u. with-label (IsNamed n) _ (codes "call") d (λ call lt.
    with-text n (IsNamed n) _ (codes "event") d h (λ event v. with-any (IsNamed n) _ (need Shape (departure_of event))
    (λ dep. record { trip = t.utf8; short = omega (arith, t.weighs, h.light); call = lt })))))

event-said : (n : ℕ) (kind : ValueKind) (d : Data) → IsWithin n d → Said (IsReadMessage n) (event_of kind d)
unfolding event_of
event-said n kind d h =
    behind (IsNamed n) (IsReadMessage n) _ (named_event d) (named-said n d h) (λ named is. with-text n (IsReadMessage n) _ (codes "time") d h (λ time t.
    with-date (IsReadMessage n) _ named.date (λ day civil. with-time (IsReadMessage n) _ time (λ secs le. record { proper = (civil, le); labels = is.call; texts = is.trip; room = is.short }))))

abbrev IsTimeIfAny : Option ℕ → Type 0
IsTimeIfAny o = IfSome o (λ s. s ≤ 359999)

if-any-said : (time : Option (List ℕ)) → If IsTimeIfAny (seconds_if_any time)
if-any-said None = tt
if-any-said (Some t) = made (seconds_of t) (seconds-are t)
  where
    made : (o : Option ℕ) → If IsTime o → If IsTimeIfAny (option_map (λ secs. Some secs) o)
    made None h = tt
    made (Some s) h = h

correct-said : (n : ℕ) (d : Data) → IsWithin n d → Said (IsReadMessage n) (correct_of d)
unfolding correct_of
correct-said n d h =
    behind (IsNamed n) (IsReadMessage n) _ (named_event d) (named-said n d h) (λ named is. with-any (IsReadMessage n) _ (need Shape (text_or_null_at (codes "time") d)) (λ time.
    with-date (IsReadMessage n) _ named.date (λ day civil.
    behind IsTimeIfAny (IsReadMessage n) _ (need Time (seconds_if_any time)) (needed IsTimeIfAny Time (seconds_if_any time) (if-any-said time))
    (λ secs le. record { proper = (civil, le); labels = is.call; texts = is.trip; room = is.short }))))

withdraw-said : (n : ℕ) (d : Data) → IsWithin n d → Said (IsReadMessage n) (withdraw_of d)
unfolding withdraw_of
withdraw-said n d h =
    behind (IsNamed n) (IsReadMessage n) _ (named_event d) (named-said n d h) (λ named is. with-date (IsReadMessage n) _ named.date
    (λ day civil. record { proper = civil; labels = is.call; texts = is.trip; room = is.short }))

cancel-said : (n : ℕ) (d : Data) → IsWithin n d → Said (IsReadMessage n) (cancel_of d)
unfolding cancel_of
cancel-said n d h =
    with-text n (IsReadMessage n) _ (codes "trip") d h (λ trip t. with-text n (IsReadMessage n) _ (codes "date") d h (λ date u. with-label (IsReadMessage n) _ (codes "from") d (λ from lt.
    with-label (IsReadMessage n) _ (codes "to") d (λ to less. with-date (IsReadMessage n) _ date (λ day civil. record {
      proper = civil;
      labels = (lt, less);
      texts = t.utf8;
      room = omega (arith, t.weighs, h.light);
    })))))

-- ---- messages about connections

record IsRef (n : ℕ) (r : WireRef) : Type 0 where
  trip : IsText r.trip
  short : length r.trip ≤ n
  date : IsCivil r.date
  call : r.call < 2 ^ 32

record IsRefTexts (n : ℕ) (r : RefTexts) : Type 0 where
  trip : IsText r.trip
  short : length r.trip ≤ n
  call : r.call < 2 ^ 32

ref-texts-said : (n : ℕ) (d : Data) → IsWithin n d → Said (IsRefTexts n) (ref_texts d)
unfolding ref_texts
ref-texts-said n d h =
    with-text n (IsRefTexts n) _ (codes "trip") d h (λ trip t. with-text n (IsRefTexts n) _ (codes "date") d h (λ date u.
    with-label (IsRefTexts n) _ (codes "call") d (λ call lt. record { trip = t.utf8; short = omega (arith, t.weighs, h.light); call = lt })))

ref-said : (n : ℕ) (r : RefTexts) → IsRefTexts n r → Said (IsRef n) (ref_of r)
unfolding ref_of
ref-said n r is = with-date (IsRef n) _ r.date (λ day civil. record { trip = is.trip; short = is.short; date = civil; call = is.call })

connect-said : (n : ℕ) (kind : AConnect) (d : Data) → IsWithin n d → Said (IsReadMessage n) (connect_of kind d)
unfolding connect_of
connect-said n kind d h =
    let P : Wire → Type 0 = IsReadMessage n in
    with-object n P _ (codes "feeder") d h (λ feeder f. with-object n P _ (codes "train") d h (λ train t.
    behind (IsRefTexts n) P _ (ref_texts feeder) (ref-texts-said n feeder f) (λ feeder_texts ft. behind (IsRefTexts n) P _ (ref_texts train) (ref-texts-said n train t) (λ train_texts tt'.
    behind (IsRef n) P _ (ref_of feeder_texts) (ref-said n feeder_texts ft) (λ a fr. behind (IsRef n) P _ (ref_of train_texts) (ref-said n train_texts tt') (λ b tr.
    record { proper = (fr.date, tr.date); labels = (fr.call, tr.call); texts = (fr.trip, tr.trip); room = (fr.short, tr.short) }))))))

-- ---- messages with lists of calls

record IsCallTexts (n : ℕ) (c : CallTexts) : Type 0 where
  stop : IsText c.stop
  weighs : 7 + length c.stop ≤ n

record IsCall (n : ℕ) (c : WireCall) : Type 0 where
  stop : HasStopText c
  times : IsWireCall c
  weighs : 7 + length c.stop ≤ n

call-texts-said : (n : ℕ) (d : Data) → IsWithin n d → Said (IsCallTexts n) (call_texts d)
unfolding call_texts
call-texts-said n d h =
    with-text n (IsCallTexts n) _ (codes "stop") d h (λ stop s. with-text n (IsCallTexts n) _ (codes "arr") d h (λ arr a.
    with-text n (IsCallTexts n) _ (codes "dep") d h (λ dep b. record { stop = s.utf8; weighs = omega (arith, s.weighs, h.light) })))

call-said : (n : ℕ) (d : Data) → IsWithin n d → Said (IsCall n) (call_of d)
unfolding call_of
call-said n d h =
    behind (IsCallTexts n) (IsCall n) _ (call_texts d) (call-texts-said n d h) (λ texts t. with-time (IsCall n) _ texts.arr (λ arr le.
    with-time (IsCall n) _ texts.dep (λ dep less. record { stop = t.stop; times = (le, less); weighs = t.weighs })))

-- so many calls, which were read of values that weigh so much
record AreCalls (many weight : ℕ) (cs : List WireCall) : Type 0 where
  stops : All HasStopText cs
  times : All IsWireCall cs
  all : length cs ≡ many
  weigh : calls_weight cs ≤ weight

calls-said : (ds : Items) → TextItems ds → Said (AreCalls (count ds) (items_weight ds)) (calls_of ds)
unfolding calls_of count
calls-said no_items h = record { stops = All-nil HasStopText; times = All-nil IsWireCall; all = refl; weigh = omega arith }
calls-said (item d ds) h =
    let one : IsWithin (data_weight d) d = record { texts = h.0; light = omega arith } in
    let Q : List WireCall → Type 0 = AreCalls (suc (count ds)) (data_weight d + items_weight ds) in
    behind (IsCall (data_weight d)) Q _ (call_of d) (call-said (data_weight d) d one) (λ c is. behind (AreCalls (count ds) (items_weight ds)) Q _ (calls_of ds) (calls-said ds h.1) (λ cs are.
    record {
      stops = All-cons HasStopText c cs is.stop are.stops;
      times = All-cons IsWireCall c cs is.times are.times;
      all = omega (arith, are.all);
      weigh = omega (arith, is.weighs, are.weigh);
    }))

reroute-said : (n : ℕ) (d : Data) → IsWithin n d → Said (IsReadMessage n) (reroute_of d)
unfolding reroute_of
reroute-said n d h =
    let P : Wire → Type 0 = IsReadMessage n in
    with-text n P _ (codes "trip") d h (λ trip t. with-text n P _ (codes "date") d h (λ date u. with-label P _ (codes "from") d (λ from lt.
    with-label P _ (codes "to") d (λ to less. with-items n P _ (codes "via") d h (λ ds within. with-any P _ (calls_shape ds) (λ shape.
    with-date P _ date (λ day civil. behind (AreCalls (count ds) (items_weight ds)) P _ (calls_of ds) (calls-said ds within.texts) (λ calls are.
    record {
      proper = (civil, are.times);
      labels = (lt, less);
      texts = (t.utf8, are.stops);
      room = (omega (arith, t.weighs, h.light), omega (arith, are.weigh, within.light));
    }))))))))

unless-said : {E : Type 0} (b : Bool) (cause : E) → Said (λ _. b ≡ true) (unless b cause)
unless-said true cause = refl
unless-said false cause = tt

apart : codes "trip" ≡ codes "route" → ⊥
apart is = omega (arith, ap length is)

extra-said : (n : ℕ) (d : Data) → IsWithin n d → Said (IsReadMessage n) (extra_of d)
unfolding extra_of
extra-said n d h =
    let P : Wire → Type 0 = IsReadMessage n in
    with-text n P _ (codes "trip") d h (λ trip t. with-text n P _ (codes "date") d h (λ date u. with-text n P _ (codes "route") d h (λ route r.
    with-items n P _ (codes "calls") d h (λ ds within. with-any P _ (calls_shape ds) (λ shape.
    behind (λ _. nat_le 2 (count ds) ≡ true) P _ (unless (nat_le 2 (count ds)) Shape) (unless-said (nat_le 2 (count ds)) Shape) (λ _ two.
    with-date P _ date (λ day civil. behind (AreCalls (count ds) (items_weight ds)) P _ (calls_of ds) (calls-said ds within.texts) (λ calls are.
    record {
      proper = (civil, are.times, omega (arith, are.all, leb-true 2 (count ds) two));
      labels = tt;
      texts = (t.utf8, r.utf8, are.stops);
      room = (omega (arith, two-texts (codes "trip") (codes "route") apart d trip route t.is r.is, h.light), omega (arith, are.weigh, within.light));
    }))))))))

-- ---- lines

abbrev pub IsRead : ℕ → Line → Type 0
IsRead n (Message w) = IsReadMessage n w
IsRead n (Query q) = ⊤
IsRead n Flush = ⊤

as-message : (n : ℕ) (r : Result Wire BadLine) → Said (IsReadMessage n) r → Said (IsRead n) (r >>= λ w. Ok (Message w))
as-message n (Ok w) h = h
as-message n (Err bad) h = tt

picked : {K : Type 0} (P : K → Type 0) (b : Bool) (kind : K) (o : Option K) → P kind → If P o → If P (if b then Some kind else o)
picked P true kind o h rest = h
picked P false kind o h rest = rest

-- by its type
kind-said : (n : ℕ) (name : List ℕ) (d : Data) → IsWithin n d → If (λ kind. Said (IsRead n) (message_of kind d)) (kind_of name)
unfolding kind_of message_of
kind-said n name d h =
    picked (λ kind. Said (IsRead n) (message_of kind d)) (bytes_eq name (codes "forecast")) _ _ (as-message n (event_of values.Forecast d) (event-said n values.Forecast d h))
    (picked (λ kind. Said (IsRead n) (message_of kind d)) (bytes_eq name (codes "report")) _ _ (as-message n (event_of values.Report d) (event-said n values.Report d h))
    (picked (λ kind. Said (IsRead n) (message_of kind d)) (bytes_eq name (codes "correct")) _ _ (as-message n (correct_of d) (correct-said n d h))
    (picked (λ kind. Said (IsRead n) (message_of kind d)) (bytes_eq name (codes "withdraw")) _ _ (as-message n (withdraw_of d) (withdraw-said n d h))
    (picked (λ kind. Said (IsRead n) (message_of kind d)) (bytes_eq name (codes "cancel")) _ _ (as-message n (cancel_of d) (cancel-said n d h))
    (picked (λ kind. Said (IsRead n) (message_of kind d)) (bytes_eq name (codes "reroute")) _ _ (as-message n (reroute_of d) (reroute-said n d h))
    (picked (λ kind. Said (IsRead n) (message_of kind d)) (bytes_eq name (codes "extra")) _ _ (as-message n (extra_of d) (extra-said n d h))
    (picked (λ kind. Said (IsRead n) (message_of kind d)) (bytes_eq name (codes "keep")) _ _ (as-message n (connect_of connects.Keep d) (connect-said n connects.Keep d h))
    (picked (λ kind. Said (IsRead n) (message_of kind d)) (bytes_eq name (codes "drop")) _ _ (as-message n (connect_of connects.Drop d) (connect-said n connects.Drop d h))
    (picked (λ kind. Said (IsRead n) (message_of kind d)) (bytes_eq name (codes "rule")) _ _ (as-message n (connect_of connects.Rule d) (connect-said n connects.Rule d h))
    (picked (λ kind. Said (IsRead n) (message_of kind d)) (bytes_eq name (codes "query")) _ _ (with-any (IsRead n) (λ q. Ok (Query q)) (query_of d) (λ q. tt))
    (picked (λ kind. Said (IsRead n) (message_of kind d)) (bytes_eq name (codes "flush")) _ _ tt tt)))))))))))

head-said : (n : ℕ) (d : Data) → IsWithin n d → Said (λ kind. Said (IsRead n) (message_of kind d)) (head_of d)
unfolding head_of
head-said n d h =
    with-any (λ kind. Said (IsRead n) (message_of kind d)) _ (need Shape (number_at (codes "v") d)) (λ v.
    with-any (λ kind. Said (IsRead n) (message_of kind d)) _ (need Shape (text_at (codes "type") d)) (λ name.
    behind (λ kind. Said (IsRead n) (message_of kind d)) (λ kind. Said (IsRead n) (message_of kind d)) _ (need Shape (kind_of name))
    (needed (λ kind. Said (IsRead n) (message_of kind d)) Shape (kind_of name) (kind-said n name d h))
    (λ kind is. with-any (λ kind. Said (IsRead n) (message_of kind d)) _ (unless (has_version kind v) Shape) (λ _. is))))

value-said : (n : ℕ) (d : Data) → IsWithin n d → Said (IsRead n) (said_by_value d)
unfolding said_by_value
value-said n d h = behind (λ kind. Said (IsRead n) (message_of kind d)) (IsRead n) (λ kind. message_of kind d) (head_of d) (head-said n d h) (λ kind is. is)

-- the text, as it is told from the bytes
record IsTheText (bytes text : List ℕ) : Type 0 where
  utf8 : IsText text
  is : text ≡ bytes

utf8-said : (bytes : List ℕ) → Said (IsTheText bytes) (utf8_of bytes)
utf8-said bytes = cond_both (is_utf8 bytes) (Ok bytes) (Err Utf8) (Said (IsTheText bytes)) (λ is. record { utf8 = is; is = refl }) (λ is. tt)

within-there : (n : ℕ) (o : Option Data) → If TextData o → If (λ d. data_weight d ≤ n) o → If (IsWithin n) o
within-there n None h le = tt
within-there n (Some d) h le = record { texts = h; light = le }

-- what a line says was read of a value that weighs at most one more than the line is long
pub line-said : (bytes : List ℕ) → Said (IsRead (1 + length bytes)) (line_of bytes)
unfolding line_of
line-said bytes =
    let n : ℕ = 1 + length bytes in
    behind (IsTheText bytes) (IsRead n) _ (utf8_of bytes) (utf8-said bytes) (λ text the.
    let few : If (λ d. data_weight d ≤ n) (read text) = subst (λ (l : ℕ). If (λ d. data_weight d ≤ 1 + l) (read text)) (ap length the.is) (weight-read text) in
    behind (IsWithin n) (IsRead n) said_by_value (json_of text) (needed (IsWithin n) Json (read text) (within-there n (read text) (texts-read text the.utf8) few)) (λ d h. value-said n d h))

pub read-message : (bytes : List ℕ) (w : Wire) → line_of bytes ≡ Ok (Message w) → IsReadMessage (1 + length bytes) w
read-message bytes w is = subst (Said (IsRead (1 + length bytes))) is (line-said bytes)

-- a message from a line that is not long can be written
pub can-write : (n : ℕ) (w : Wire) → n ≤ 65536 → IsReadMessage n w → CanBeWritten w
can-write n w few is = record { proper = is.proper; labels = is.labels; texts = is.texts; short = omega (arith, message-line-size n w is.proper is.labels is.room) }
