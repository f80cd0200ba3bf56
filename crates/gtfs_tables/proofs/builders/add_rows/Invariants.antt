use Rattle.gtfs_tables.proofs.Words.{◌≡◌, ◌≤◌, ◌+◌, ◌-◌, ◌*◌, ℕ, List, length, rows_from, IsUnder, Remains}
use Rattle.gtfs_tables.specs.Texts.{Rests}
use Rattle.gtfs_tables.proofs.builders.add_rows.Given as goal

abbrev pub invariant-loop-table : goal.invariant-loop-table
invariant-loop-table g l = record {
  rests : Rests l.sheet.reader;
  few : (rest : List (List (List ℕ))) × Remains l.sheet.reader rest × (length rest + l.row ≤ 268435458);
  size : g.T.TableBuilder.size l.table + 6 ≤ g.T.TableBuilder.size l.initial.table + 3 * l.row;
  sound : g.T.TableBuilder.IsSound l.table;
  given : g.T.TableBuilder.given l.table ≡ g.T.TableBuilder.given l.initial.table;
  width : l.sheet.width ≡ l.initial.sheet.width;
  places : l.sheet.places ≡ l.initial.sheet.places;
  so_far : (header : List (List ℕ)) (all : List (List (List ℕ))) → IsUnder header g.T.TableBuilder.columns l.initial.sheet → Remains l.initial.sheet.reader all
      → (rest : List (List (List ℕ))) × Remains l.sheet.reader rest
      × (rows_from (g.T.TableBuilder.step (g.T.TableBuilder.given l.initial.table)) header 2 (g.T.TableBuilder.made l.initial.table) all ≡ rows_from (g.T.TableBuilder.step (g.T.TableBuilder.given l.initial.table)) header l.row (g.T.TableBuilder.made l.table) rest);
}

abbrev pub decreases-loop-table : goal.decreases-loop-table
decreases-loop-table g l = 268435459 - l.row
