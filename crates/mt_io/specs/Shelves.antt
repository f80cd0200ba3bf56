-- The tables that a shelf holds.
use Rattle.std.specs.Prelude.{string_bytes}
use Rattle.mt_io.specs.Tables.{Shelved}
use Rattle.mt_io.specs.declared.shelf.Table.{Table}

-- its folder, its name and its bytes
abbrev pub shelved : Table → Shelved
shelved t = (string_bytes t.folder, string_bytes t.name, t.bytes.items)
