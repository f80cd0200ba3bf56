-- What change times follow from.
use Rattle.std.specs.Prelude.{ℕ, ◌≡◌, List, [], map}
use Rattle.delay_model.specs.Changes.{kind_of, station, change}
use Rattle.mt_base.specs.declared.tables.StopRow.{StopRow}
use Rattle.mt_base.specs.declared.tables.Tables.{Tables}
use Rattle.mt_base.specs.declared.tables.TransferRow.{TransferRow}

-- the locations, the rows of transfers.txt, and the seconds of a change where no row says how many
pub record ChangeTables : Type 0 where
  pub stops : List StopRow
  pub transfers : List TransferRow
  pub default : ℕ

-- the tables of a feed, with a default
abbrev pub tables_of : Tables → ℕ → ChangeTables
tables_of t default = record { stops = t.stops; transfers = t.transfers; default = default }

-- a location without its id
abbrev pub without_id : StopRow → StopRow
without_id row = record { id = []; kind = row.kind; parent = row.parent }

-- the second tables have the locations of the first without their ids, the default of the first,
-- and the change times of the first
pub record HaveSameChanges (t c : ChangeTables) : Type 0 where
  pub stops : c.stops ≡ map without_id t.stops
  pub default : c.default ≡ t.default
  pub kind : (a : ℕ) → kind_of c.stops a ≡ kind_of t.stops a
  pub station : (a : ℕ) → station c.stops a ≡ station t.stops a
  pub change : (a b : ℕ) → change c.stops c.transfers c.default a b
      ≡ change t.stops t.transfers t.default a b
