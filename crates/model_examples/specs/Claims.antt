-- Claims over the timetable of two trains.
use Rattle.std.specs.Prelude.{ℕ, List, [], ◌∷◌, Option}
use Rattle.mt_base.specs.declared.certificates.CertRide.{CertRide}
use Rattle.mt_base.specs.declared.certificates.Cert.{Cert}
use Rattle.mt_base.specs.declared.certificates.Reach.{Reach}

abbrev pub claim : Option ℕ → List CertRide → List Reach → Cert
claim arrives rides reached = record { arrives = arrives; rides = rides; reached = reached }

abbrev pub stop_at : ℕ → ℕ → Reach
stop_at stop time = record { stop = stop; time = time }

-- the first train from A to B, and the second from there to D
abbrev pub over_b : List CertRide
over_b = record { train = 0; board = 0; alight = 1 } ∷ record { train = 1; board = 0; alight = 1 }
    ∷ []
