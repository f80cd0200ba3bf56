-- A numbering of names in memory.
use Rattle.std.specs.Prelude.{◌≡◌, ℕ, List}
use Rattle.std.specs.BTreeMap.{get_by_text}
use Rattle.feed_tables.specs.Lawful.{AreDistinct}
use Rattle.gtfs_tables.specs.Numbers.{number_from}
use Rattle.gtfs_tables.specs.declared.numbering.Numbering.{Numbering}

-- each name is found by its number, and only the names that are listed, none of them twice
pub record IsNumbered (n : Numbering) : Type 0 where
  pub found : (name : List ℕ) → get_by_text n.numbers name ≡ number_from 0 name n.names.items
  pub distinct : AreDistinct n.names.items

-- the names, by number
abbrev pub names_of : Numbering → List (List ℕ)
names_of n = n.names.items
