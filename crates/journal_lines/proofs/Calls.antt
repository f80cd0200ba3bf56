-- The lists of calls.
use Rattle.std.proofs.Common.{◌≡◌, List, [], ◌∷◌, false, map, refl, ap}
use Rattle.serde_json.specs.Data.{item}
use Rattle.serde_json.specs.View.{items_of}
use Rattle.serde_json.specs.Written.{items_have_float}
use Rattle.message_reader.specs.declared.wire.WireCall.{WireCall}
use Rattle.message_reader.specs.Spelled.{call_object, call_objects}

-- the objects of calls, one after the other
pub calls_listed : (calls : List WireCall) → items_of (map call_object calls) ≡ call_objects calls
unfolding call_objects
calls_listed [] = refl
calls_listed (c ∷ cs) = ap (item (call_object c)) (calls_listed cs)

-- no call holds a floating-point number, so its text is known byte by byte
pub calls_are_whole : (calls : List WireCall) → items_have_float (call_objects calls) ≡ false
unfolding call_objects
calls_are_whole [] = refl
calls_are_whole (c ∷ cs) = calls_are_whole cs
