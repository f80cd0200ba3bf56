-- Objects without lists and objects in them, and how they are read of tokens.
use Rattle.std.specs.Prelude.{◌≡◌, ℕ, List, [], ◌∷◌, length, Some, None, codes}
use Rattle.std.specs.declared.option.Option.{Option}
use Rattle.json.specs.Token.{Token}
use Rattle.json.specs.Json.{Json, members, value}
use Rattle.serde_json.specs.Data.{Data, null, number, string, object, unsigned, Members, no_members, member}
use Rattle.serde_json.specs.Read.{of_json, of_members, converted}
use Rattle.message_reader.specs.declared.flat.Scalar.{Scalar}
use Rattle.message_reader.specs.declared.flat.Scalar.TheVariants.{Null, Text, Number}
use Rattle.message_reader.specs.declared.flat.FlatObject.{FlatObject}

-- the value of JSON that a scalar is
abbrev pub scalar_data : Scalar → Data
scalar_data Null = null
scalar_data (Text s) = string s.now
scalar_data (Number n) = number (unsigned n)

-- a member of this name, if it is there, before others
abbrev pub with_member : List ℕ → Option Scalar → Members → Members
with_member key None ms = ms
with_member key (Some s) ms = member key (scalar_data s) ms

-- members of these names, as far as they are there
abbrev pub members_from : List (List ℕ × Option Scalar) → Members
members_from [] = no_members
members_from (slot ∷ slots) = with_member slot.0 slot.1 (members_from slots)

-- the members that an object may have, in the order of their names
abbrev pub slots : FlatObject → List (List ℕ × Option Scalar)
slots f =
    (codes "call", f.call) ∷ (codes "client", f.client) ∷ (codes "date", f.date)
    ∷ (codes "event", f.event) ∷ (codes "from", f.from) ∷ (codes "route", f.route)
    ∷ (codes "time", f.time) ∷ (codes "to", f.to) ∷ (codes "trip", f.trip)
    ∷ (codes "type", f.kind) ∷ (codes "v", f.version) ∷ []

-- the members of an object
unfoldable pub flat_members : FlatObject → Members
flat_members f = members_from (slots f)

-- the value of JSON that an object is
abbrev pub flat_data : FlatObject → Data
flat_data f = object (flat_members f)

-- in an object, the token alone is this value
abbrev pub IsScalar : Token → Data → Type 0
IsScalar t d =
    (j : Json) × (of_json j ≡ Some d) × ((ts : List Token) → value 126 (t ∷ ts) ≡ Some (j, ts))

-- the tokens behind the brace of an object are these members, up to the tokens that are left
abbrev pub ReadsMembers : List Token → Members → List Token → Type 0
ReadsMembers before ms after =
    converted (λ read. of_members read no_members) (members (value 126) (length before) before)
    ≡ Some (ms, after)
