-- Members put into a flat object, found in it, and read of tokens.
use Rattle.std.proofs.Common.{◌≡◌, ℕ, ◌-◌, ◌<◌, ◌≤◌, ◌^◌, List, [], ◌∷◌, ◌++◌, Option, Some, None, length, option_map, option_and_then, Less, Equal, Greater, Ordering, nat_cmp, is_eq, false, ◌==◌, refl, ap, sym, ◌∙◌, arith, lt-ltb}
use Rattle.std.specs.Prelude.{⊤, IfSome, SomeIff, slice_index, codes}
use Rattle.std.specs.Cmp.Lexicographic.{slice_cmp}
use Rattle.std.specs.Ordering.{match_ordering}
use Rattle.std.proofs.lemmas.Cmp.{nat_list_cmp_total, tied_itself}
use Rattle.fast_float.specs.Text.{scan, digits_of, IsInteger, Parts}
use Rattle.json.specs.Token.{Token}
use Rattle.json.specs.Json as json
use Rattle.json.specs.Json.{parse_map, read_key, members, value}
use Rattle.json.specs.Lex.{tokens}
use Rattle.json.proofs.Grammar.{value_is, value-begin_object, members_end, members_more}
use Rattle.serde_json.specs.Data.{Data, null, number, string, object, unsigned, Members, no_members, member, put}
use Rattle.serde_json.specs.Find.{get_member}
use Rattle.serde_json.specs.Read.{of_json, of_members, converted, number_of, number_from, read}
use Rattle.message_reader.specs.Flat.{scalar_data, with_member, members_from, slots, flat_members, IsScalar, ReadsMembers}
use Rattle.message_reader.specs.Members.{key_name, nested_name}
use Rattle.message_reader.specs.declared.flat.Scalar.{Scalar}
use Rattle.message_reader.specs.declared.flat.FlatObject.{FlatObject}
use Rattle.message_reader.specs.declared.members.Key.{Key}
use Rattle.message_reader.specs.declared.members.Key.TheVariants as keys
use Rattle.message_reader.specs.declared.members.NestedKey.{NestedKey}
use Rattle.message_reader.specs.declared.members.NestedKey.TheVariants as nested

abbrev Slot : Type 0
Slot = List ℕ × Option Scalar

-- ---- members in the order of their names

-- the name comes before all of these
abbrev Before : List ℕ → List Slot → Type 0
Before k [] = ⊤
Before k (l ∷ ls) = (slice_cmp nat_cmp k l.0 ≡ Less) × Before k ls

-- the name comes behind all of these
abbrev Behind : List ℕ → List Slot → Type 0
Behind k [] = ⊤
Behind k (l ∷ ls) = (slice_cmp nat_cmp k l.0 ≡ Greater) × Behind k ls

same_name : (k : List ℕ) → slice_cmp nat_cmp k k ≡ Equal
same_name k = tied_itself nat_list_cmp_total k

put-one-front : (k l : List ℕ) (d : Data) (o : Option Scalar) (ms : Members) → slice_cmp nat_cmp k l ≡ Less → put k d ms ≡ member k d ms
    → put k d (with_member l o ms) ≡ member k d (with_member l o ms)
put-one-front k l d None ms lt e = e
put-one-front k l d (Some s) ms lt e = rw lt

put-front : (k : List ℕ) (d : Data) (ls : List Slot) → Before k ls → put k d (members_from ls) ≡ member k d (members_from ls)
put-front k d [] h = refl
put-front k d (l ∷ ls) h = put-one-front k l.0 d l.1 (members_from ls) h.0 (put-front k d ls h.1)

put-one-here : (k : List ℕ) (s : Scalar) (o : Option Scalar) (ms : Members) → put k (scalar_data s) ms ≡ member k (scalar_data s) ms
    → put k (scalar_data s) (with_member k o ms) ≡ with_member k (Some s) ms
put-one-here k s None ms e = e
put-one-here k s (Some old) ms e = rw same_name

put-one-past : (k l : List ℕ) (d : Data) (o : Option Scalar) (ms : Members) → slice_cmp nat_cmp k l ≡ Greater
    → put k d (with_member l o ms) ≡ with_member l o (put k d ms)
put-one-past k l d None ms gt = refl
put-one-past k l d (Some s) ms gt = rw gt

put-slot : (front rest : List Slot) (k : List ℕ) (o : Option Scalar) (s : Scalar) → Behind k front → Before k rest
    → members_from (front ++ (k, Some s) ∷ rest) ≡ put k (scalar_data s) (members_from (front ++ (k, o) ∷ rest))
put-slot [] rest k o s behind before = sym (put-one-here k s o (members_from rest) (put-front k (scalar_data s) rest before))
put-slot (l ∷ front) rest k o s behind before =
    ap (with_member l.0 l.1) (put-slot front rest k o s behind.1 before)
    ∙ sym (put-one-past k l.0 (scalar_data s) l.1 (members_from (front ++ (k, o) ∷ rest)) behind.0)

-- ---- members that are found

-- the name is none of these
abbrev Apart : List ℕ → List Slot → Type 0
Apart k [] = ⊤
Apart k (l ∷ ls) = (is_eq (slice_cmp nat_cmp k l.0) ≡ false) × Apart k ls

other_name : (o : Ordering) (a b : Option Data) → is_eq o ≡ false → match_ordering o a b a ≡ a
other_name Less a b e = refl
other_name Equal a b e = absurd (cc)
other_name Greater a b e = refl

get-one-past : (k l : List ℕ) (o : Option Scalar) (ms : Members) → is_eq (slice_cmp nat_cmp k l) ≡ false → get_member k (with_member l o ms) ≡ get_member k ms
get-one-past k l None ms e = refl
get-one-past k l (Some s) ms e = other_name (slice_cmp nat_cmp k l) (get_member k ms) (Some (scalar_data s)) e

get-none : (k : List ℕ) (ls : List Slot) → Apart k ls → get_member k (members_from ls) ≡ None
get-none k [] h = refl
get-none k (l ∷ ls) h = get-one-past k l.0 l.1 (members_from ls) h.0 ∙ get-none k ls h.1

get-one-here : (k : List ℕ) (o : Option Scalar) (ms : Members) → get_member k ms ≡ None → option_map scalar_data o ≡ get_member k (with_member k o ms)
get-one-here k None ms e = sym e
get-one-here k (Some s) ms e = rw same_name

get-slot : (front rest : List Slot) (k : List ℕ) (o : Option Scalar) → Apart k front → Apart k rest → option_map scalar_data o ≡ get_member k (members_from (front ++ (k, o) ∷ rest))
get-slot [] rest k o front_apart rest_apart = get-one-here k o (members_from rest) (get-none k rest rest_apart)
get-slot (l ∷ front) rest k o front_apart rest_apart =
    get-slot front rest k o front_apart.1 rest_apart ∙ sym (get-one-past k l.0 l.1 (members_from (front ++ (k, o) ∷ rest)) front_apart.0)

-- the object with a member put in
abbrev pub with_key : Key → Scalar → FlatObject → FlatObject
with_key keys.Call s f = record f { call = Some s }
with_key keys.Client s f = record f { client = Some s }
with_key keys.Date s f = record f { date = Some s }
with_key keys.Event s f = record f { event = Some s }
with_key keys.From s f = record f { from = Some s }
with_key keys.Route s f = record f { route = Some s }
with_key keys.Time s f = record f { time = Some s }
with_key keys.To s f = record f { to = Some s }
with_key keys.Trip s f = record f { trip = Some s }
with_key keys.Kind s f = record f { kind = Some s }
with_key keys.Version s f = record f { version = Some s }

pub put-key : (key : Key) (s : Scalar) (f : FlatObject) → flat_members (with_key key s f) ≡ put (key_name key) (scalar_data s) (flat_members f)
unfolding flat_members
put-key keys.Call s f = put-slot ([]) ((codes "client", f.client) ∷ (codes "date", f.date) ∷ (codes "event", f.event) ∷ (codes "from", f.from) ∷ (codes "route", f.route) ∷ (codes "time", f.time) ∷ (codes "to", f.to) ∷ (codes "trip", f.trip) ∷ (codes "type", f.kind) ∷ (codes "v", f.version) ∷ []) (codes "call") f.call s tt (refl, (refl, (refl, (refl, (refl, (refl, (refl, (refl, (refl, (refl, tt))))))))))
put-key keys.Client s f = put-slot ((codes "call", f.call) ∷ []) ((codes "date", f.date) ∷ (codes "event", f.event) ∷ (codes "from", f.from) ∷ (codes "route", f.route) ∷ (codes "time", f.time) ∷ (codes "to", f.to) ∷ (codes "trip", f.trip) ∷ (codes "type", f.kind) ∷ (codes "v", f.version) ∷ []) (codes "client") f.client s (refl, tt) (refl, (refl, (refl, (refl, (refl, (refl, (refl, (refl, (refl, tt)))))))))
put-key keys.Date s f = put-slot ((codes "call", f.call) ∷ (codes "client", f.client) ∷ []) ((codes "event", f.event) ∷ (codes "from", f.from) ∷ (codes "route", f.route) ∷ (codes "time", f.time) ∷ (codes "to", f.to) ∷ (codes "trip", f.trip) ∷ (codes "type", f.kind) ∷ (codes "v", f.version) ∷ []) (codes "date") f.date s (refl, (refl, tt)) (refl, (refl, (refl, (refl, (refl, (refl, (refl, (refl, tt))))))))
put-key keys.Event s f = put-slot ((codes "call", f.call) ∷ (codes "client", f.client) ∷ (codes "date", f.date) ∷ []) ((codes "from", f.from) ∷ (codes "route", f.route) ∷ (codes "time", f.time) ∷ (codes "to", f.to) ∷ (codes "trip", f.trip) ∷ (codes "type", f.kind) ∷ (codes "v", f.version) ∷ []) (codes "event") f.event s (refl, (refl, (refl, tt))) (refl, (refl, (refl, (refl, (refl, (refl, (refl, tt)))))))
put-key keys.From s f = put-slot ((codes "call", f.call) ∷ (codes "client", f.client) ∷ (codes "date", f.date) ∷ (codes "event", f.event) ∷ []) ((codes "route", f.route) ∷ (codes "time", f.time) ∷ (codes "to", f.to) ∷ (codes "trip", f.trip) ∷ (codes "type", f.kind) ∷ (codes "v", f.version) ∷ []) (codes "from") f.from s (refl, (refl, (refl, (refl, tt)))) (refl, (refl, (refl, (refl, (refl, (refl, tt))))))
put-key keys.Route s f = put-slot ((codes "call", f.call) ∷ (codes "client", f.client) ∷ (codes "date", f.date) ∷ (codes "event", f.event) ∷ (codes "from", f.from) ∷ []) ((codes "time", f.time) ∷ (codes "to", f.to) ∷ (codes "trip", f.trip) ∷ (codes "type", f.kind) ∷ (codes "v", f.version) ∷ []) (codes "route") f.route s (refl, (refl, (refl, (refl, (refl, tt))))) (refl, (refl, (refl, (refl, (refl, tt)))))
put-key keys.Time s f = put-slot ((codes "call", f.call) ∷ (codes "client", f.client) ∷ (codes "date", f.date) ∷ (codes "event", f.event) ∷ (codes "from", f.from) ∷ (codes "route", f.route) ∷ []) ((codes "to", f.to) ∷ (codes "trip", f.trip) ∷ (codes "type", f.kind) ∷ (codes "v", f.version) ∷ []) (codes "time") f.time s (refl, (refl, (refl, (refl, (refl, (refl, tt)))))) (refl, (refl, (refl, (refl, tt))))
put-key keys.To s f = put-slot ((codes "call", f.call) ∷ (codes "client", f.client) ∷ (codes "date", f.date) ∷ (codes "event", f.event) ∷ (codes "from", f.from) ∷ (codes "route", f.route) ∷ (codes "time", f.time) ∷ []) ((codes "trip", f.trip) ∷ (codes "type", f.kind) ∷ (codes "v", f.version) ∷ []) (codes "to") f.to s (refl, (refl, (refl, (refl, (refl, (refl, (refl, tt))))))) (refl, (refl, (refl, tt)))
put-key keys.Trip s f = put-slot ((codes "call", f.call) ∷ (codes "client", f.client) ∷ (codes "date", f.date) ∷ (codes "event", f.event) ∷ (codes "from", f.from) ∷ (codes "route", f.route) ∷ (codes "time", f.time) ∷ (codes "to", f.to) ∷ []) ((codes "type", f.kind) ∷ (codes "v", f.version) ∷ []) (codes "trip") f.trip s (refl, (refl, (refl, (refl, (refl, (refl, (refl, (refl, tt)))))))) (refl, (refl, tt))
put-key keys.Kind s f = put-slot ((codes "call", f.call) ∷ (codes "client", f.client) ∷ (codes "date", f.date) ∷ (codes "event", f.event) ∷ (codes "from", f.from) ∷ (codes "route", f.route) ∷ (codes "time", f.time) ∷ (codes "to", f.to) ∷ (codes "trip", f.trip) ∷ []) ((codes "v", f.version) ∷ []) (codes "type") f.kind s (refl, (refl, (refl, (refl, (refl, (refl, (refl, (refl, (refl, tt))))))))) (refl, tt)
put-key keys.Version s f = put-slot ((codes "call", f.call) ∷ (codes "client", f.client) ∷ (codes "date", f.date) ∷ (codes "event", f.event) ∷ (codes "from", f.from) ∷ (codes "route", f.route) ∷ (codes "time", f.time) ∷ (codes "to", f.to) ∷ (codes "trip", f.trip) ∷ (codes "type", f.kind) ∷ []) ([]) (codes "v") f.version s (refl, (refl, (refl, (refl, (refl, (refl, (refl, (refl, (refl, (refl, tt)))))))))) tt

-- a member
abbrev pub scalar_at : Key → FlatObject → Option Scalar
scalar_at keys.Call f = f.call
scalar_at keys.Client f = f.client
scalar_at keys.Date f = f.date
scalar_at keys.Event f = f.event
scalar_at keys.From f = f.from
scalar_at keys.Route f = f.route
scalar_at keys.Time f = f.time
scalar_at keys.To f = f.to
scalar_at keys.Trip f = f.trip
scalar_at keys.Kind f = f.kind
scalar_at keys.Version f = f.version

pub get-key : (key : Key) (f : FlatObject) → option_map scalar_data (scalar_at key f) ≡ get_member (key_name key) (flat_members f)
unfolding flat_members
get-key keys.Call f = get-slot ([]) ((codes "client", f.client) ∷ (codes "date", f.date) ∷ (codes "event", f.event) ∷ (codes "from", f.from) ∷ (codes "route", f.route) ∷ (codes "time", f.time) ∷ (codes "to", f.to) ∷ (codes "trip", f.trip) ∷ (codes "type", f.kind) ∷ (codes "v", f.version) ∷ []) (codes "call") f.call tt (refl, (refl, (refl, (refl, (refl, (refl, (refl, (refl, (refl, (refl, tt))))))))))
get-key keys.Client f = get-slot ((codes "call", f.call) ∷ []) ((codes "date", f.date) ∷ (codes "event", f.event) ∷ (codes "from", f.from) ∷ (codes "route", f.route) ∷ (codes "time", f.time) ∷ (codes "to", f.to) ∷ (codes "trip", f.trip) ∷ (codes "type", f.kind) ∷ (codes "v", f.version) ∷ []) (codes "client") f.client (refl, tt) (refl, (refl, (refl, (refl, (refl, (refl, (refl, (refl, (refl, tt)))))))))
get-key keys.Date f = get-slot ((codes "call", f.call) ∷ (codes "client", f.client) ∷ []) ((codes "event", f.event) ∷ (codes "from", f.from) ∷ (codes "route", f.route) ∷ (codes "time", f.time) ∷ (codes "to", f.to) ∷ (codes "trip", f.trip) ∷ (codes "type", f.kind) ∷ (codes "v", f.version) ∷ []) (codes "date") f.date (refl, (refl, tt)) (refl, (refl, (refl, (refl, (refl, (refl, (refl, (refl, tt))))))))
get-key keys.Event f = get-slot ((codes "call", f.call) ∷ (codes "client", f.client) ∷ (codes "date", f.date) ∷ []) ((codes "from", f.from) ∷ (codes "route", f.route) ∷ (codes "time", f.time) ∷ (codes "to", f.to) ∷ (codes "trip", f.trip) ∷ (codes "type", f.kind) ∷ (codes "v", f.version) ∷ []) (codes "event") f.event (refl, (refl, (refl, tt))) (refl, (refl, (refl, (refl, (refl, (refl, (refl, tt)))))))
get-key keys.From f = get-slot ((codes "call", f.call) ∷ (codes "client", f.client) ∷ (codes "date", f.date) ∷ (codes "event", f.event) ∷ []) ((codes "route", f.route) ∷ (codes "time", f.time) ∷ (codes "to", f.to) ∷ (codes "trip", f.trip) ∷ (codes "type", f.kind) ∷ (codes "v", f.version) ∷ []) (codes "from") f.from (refl, (refl, (refl, (refl, tt)))) (refl, (refl, (refl, (refl, (refl, (refl, tt))))))
get-key keys.Route f = get-slot ((codes "call", f.call) ∷ (codes "client", f.client) ∷ (codes "date", f.date) ∷ (codes "event", f.event) ∷ (codes "from", f.from) ∷ []) ((codes "time", f.time) ∷ (codes "to", f.to) ∷ (codes "trip", f.trip) ∷ (codes "type", f.kind) ∷ (codes "v", f.version) ∷ []) (codes "route") f.route (refl, (refl, (refl, (refl, (refl, tt))))) (refl, (refl, (refl, (refl, (refl, tt)))))
get-key keys.Time f = get-slot ((codes "call", f.call) ∷ (codes "client", f.client) ∷ (codes "date", f.date) ∷ (codes "event", f.event) ∷ (codes "from", f.from) ∷ (codes "route", f.route) ∷ []) ((codes "to", f.to) ∷ (codes "trip", f.trip) ∷ (codes "type", f.kind) ∷ (codes "v", f.version) ∷ []) (codes "time") f.time (refl, (refl, (refl, (refl, (refl, (refl, tt)))))) (refl, (refl, (refl, (refl, tt))))
get-key keys.To f = get-slot ((codes "call", f.call) ∷ (codes "client", f.client) ∷ (codes "date", f.date) ∷ (codes "event", f.event) ∷ (codes "from", f.from) ∷ (codes "route", f.route) ∷ (codes "time", f.time) ∷ []) ((codes "trip", f.trip) ∷ (codes "type", f.kind) ∷ (codes "v", f.version) ∷ []) (codes "to") f.to (refl, (refl, (refl, (refl, (refl, (refl, (refl, tt))))))) (refl, (refl, (refl, tt)))
get-key keys.Trip f = get-slot ((codes "call", f.call) ∷ (codes "client", f.client) ∷ (codes "date", f.date) ∷ (codes "event", f.event) ∷ (codes "from", f.from) ∷ (codes "route", f.route) ∷ (codes "time", f.time) ∷ (codes "to", f.to) ∷ []) ((codes "type", f.kind) ∷ (codes "v", f.version) ∷ []) (codes "trip") f.trip (refl, (refl, (refl, (refl, (refl, (refl, (refl, (refl, tt)))))))) (refl, (refl, tt))
get-key keys.Kind f = get-slot ((codes "call", f.call) ∷ (codes "client", f.client) ∷ (codes "date", f.date) ∷ (codes "event", f.event) ∷ (codes "from", f.from) ∷ (codes "route", f.route) ∷ (codes "time", f.time) ∷ (codes "to", f.to) ∷ (codes "trip", f.trip) ∷ []) ((codes "v", f.version) ∷ []) (codes "type") f.kind (refl, (refl, (refl, (refl, (refl, (refl, (refl, (refl, (refl, tt))))))))) (refl, tt)
get-key keys.Version f = get-slot ((codes "call", f.call) ∷ (codes "client", f.client) ∷ (codes "date", f.date) ∷ (codes "event", f.event) ∷ (codes "from", f.from) ∷ (codes "route", f.route) ∷ (codes "time", f.time) ∷ (codes "to", f.to) ∷ (codes "trip", f.trip) ∷ (codes "type", f.kind) ∷ []) ([]) (codes "v") f.version (refl, (refl, (refl, (refl, (refl, (refl, (refl, (refl, (refl, (refl, tt)))))))))) tt

-- no flat object has a list or an object
pub get-nested : (key : NestedKey) (f : FlatObject) → get_member (nested_name key) (flat_members f) ≡ None
unfolding flat_members
get-nested nested.Calls f = get-none (nested_name nested.Calls) (slots f) (refl, (refl, (refl, (refl, (refl, (refl, (refl, (refl, (refl, (refl, (refl, tt)))))))))))
get-nested nested.Feeder f = get-none (nested_name nested.Feeder) (slots f) (refl, (refl, (refl, (refl, (refl, (refl, (refl, (refl, (refl, (refl, (refl, tt)))))))))))
get-nested nested.Train f = get-none (nested_name nested.Train) (slots f) (refl, (refl, (refl, (refl, (refl, (refl, (refl, (refl, (refl, (refl, (refl, tt)))))))))))
get-nested nested.Via f = get-none (nested_name nested.Via) (slots f) (refl, (refl, (refl, (refl, (refl, (refl, (refl, (refl, (refl, (refl, (refl, tt)))))))))))

-- ---- scalars

pub null-is : IsScalar Token.null null
null-is = (json.null, refl, λ ts. value_is 126 (Token.null ∷ ts))

pub string-is : (s : List ℕ) → IsScalar (Token.string s) (string s)
string-is s = (json.string s, refl, λ ts. value_is 126 (Token.string s ∷ ts))

pub number-is : (s : List ℕ) (n : ℕ) → number_of s ≡ Some (unsigned n) → IsScalar (Token.number s) (number (unsigned n))
number-is s n e = (json.number s, ap (option_map number) e, λ ts. value_is 126 (Token.number s ∷ ts))

whole_parts : (p : Parts) → IsInteger p → digits_of p < 2 ^ 64 → number_from false p ≡ Some (unsigned (digits_of p))
whole_parts p whole small =
    let some = lt-ltb _ _ whole.0 in
    let fits = lt-ltb _ _ small in
    rw (some, whole.1, whole.2, fits)

pub whole-number : (s : List ℕ) (found : Option ℕ) → (slice_index s 0 == 45) ≡ false → SomeIff found (IsInteger (scan s) × (digits_of (scan s) < 2 ^ 64)) (digits_of (scan s))
    → IfSome found (λ n. number_of s ≡ Some (unsigned n))
unfolding number_of
whole-number s None plain h = tt
whole-number s (Some n) plain h = rw (plain, h.1) (whole_parts (scan s) h.0.0 h.0.1)

-- ---- members that are read

with_read : (k : List ℕ) (j : json.Json) (d : Data) (old : Members) → of_json j ≡ Some d → (o : Option (json.Members × List Token))
    → converted (λ read. of_members read old) (parse_map (json.member k j) o) ≡ converted (λ read. of_members read (put k d old)) o
with_read k j d old e None = refl
with_read k j d old e (Some p) = rw e

-- one more member
pub member-read : (old : Members) (n : ℕ) (k : List ℕ) (ts r : List Token) (t : Token) (d : Data) → 0 < n → read_key ts ≡ Some (Some k, t ∷ r) → IsScalar t d
    → converted (λ read. of_members read old) (members (value 126) n ts) ≡ converted (λ read. of_members read (put k d old)) (members (value 126) (n - 1) r)
member-read old n k ts r t d some key is =
    ap (converted (λ read. of_members read old)) (members_more (value 126) n k ts (t ∷ r) r is.0 some key (is.2 r)) ∙ with_read k is.0 d old is.1 _

-- the end of the members
pub members-over : (old : Members) (n : ℕ) (ts r : List Token) → length ts ≤ n → read_key ts ≡ Some (None, r) → converted (λ read. of_members read old) (members (value 126) n ts) ≡ Some (old, r)
members-over old n ts r enough e = ap (converted (λ read. of_members read old)) (members_end (value 126) n ts r enough e)

-- ---- the whole text

abbrev pick : {A : Type 0} → A → Option A → A
pick d None = d
pick d (Some a) = a

same_read : (r : List Token) (x : Option Members) (ms : Members) → option_map {U = Members × List Token} (λ y. (y, r)) x ≡ Some (ms, []) → (r ≡ []) × (x ≡ Some ms)
same_read r None ms e = absurd (cc)
same_read r (Some y) ms e = let same = ap (pick (y, r)) e in (ap (λ p. p.1) same, ap (λ p. Some p.0) same)

whole_object : (o : Option (json.Members × List Token)) (ms : Members) → converted (λ read. of_members read no_members) o ≡ Some (ms, [])
    → option_and_then of_json (option_and_then (λ p. json.if_last p.0 p.1) (parse_map json.object o)) ≡ Some (object ms)
whole_object None ms e = absurd (cc)
whole_object (Some (m, [])) ms e = ap (option_map object) (same_read [] (of_members m no_members) ms e).1
whole_object (Some (m, t ∷ ts)) ms e = let never = (same_read (t ∷ ts) (of_members m no_members) ms e).0 in absurd (cc)

-- a text is the object whose members its tokens are
pub text-is : (text : List ℕ) (ts : List Token) (ms : Members) → tokens text ≡ Token.begin_object ∷ ts → ReadsMembers ts ms [] → read text ≡ Some (object ms)
text-is text ts ms e reads =
    let opened : value 127 (tokens text) ≡ parse_map json.object (members (value 126) (length ts) ts) = ap (value 127) e ∙ value-begin_object 127 ts (omega arith) in
    ap (λ o. option_and_then of_json (option_and_then (λ p. json.if_last p.0 p.1) o)) opened ∙ whole_object (members (value 126) (length ts) ts) ms reads
