-- The stations of a query.
use Rattle.std.specs.Prelude.{◌≡◌, length}
use Rattle.change_times.specs.ChangeTables.{ChangeTables}
use Rattle.delay_model.specs.Changes.{station}
use Rattle.conn_scan.specs.declared.known.Asked.{Asked}

-- beside a query stand the stations of its origin and of its destination, and the number of stops
pub record HasStations (t : ChangeTables) (a : Asked) : Type 0 where
  pub origin : a.origin ≡ station t.stops a.query.from_stop
  pub destination : a.destination ≡ station t.stops a.query.to_stop
  pub stops : a.stops ≡ length t.stops
