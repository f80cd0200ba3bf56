-- Lists of JSON values, item by item.
use Rattle.std.specs.Prelude.{List, [], ◌∷◌, Result, Ok}
use Rattle.serde_json.specs.Data.{Data, Items, no_items, item}
use Rattle.message_reader.specs.Chain.{◌>>=◌}

-- whether each item of a list can be read, or the first fault
unfoldable pub items_shape : {X E : Type 0} → (Data → Result X E) → Items → Result (Unit {0}) E
items_shape read no_items = Ok tt
items_shape read (item d ds) = do
  _ ← read d
  items_shape read ds

-- what the items of a list say, or the first fault
unfoldable pub items_read : {X E : Type 0} → (Data → Result X E) → Items → Result (List X) E
items_read read no_items = Ok []
items_read read (item d ds) = do
  x ← read d
  xs ← items_read read ds
  Ok (x ∷ xs)
