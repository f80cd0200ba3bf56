-- Whether the stops that a certificate lists are good ones.
use Rattle.std.specs.Prelude.{ℕ, suc, ◌<◌, List, [], ◌∷◌, Bool, true, ◌&&◌, not, nat_le, Option, All}
use Rattle.mt_base.specs.declared.certificates.Reach.{Reach}
use Rattle.mt_base.specs.declared.journeys.Query.{Query}
use Rattle.delay_model.specs.declared.network.Network.{Network}
use Rattle.delay_model.specs.Journeys.{is_one_station}
use Rattle.journey_laws.specs.Checked.{is_early_stop}

-- whether it is a stop or platform, with a time before the best arrival, and not in the
-- destination's station
abbrev pub is_good_stop : Network → Query → Option ℕ → Reach → Bool
is_good_stop nw q best x = is_early_stop nw best x && not (is_one_station nw x.stop q.to_stop)

-- whether they are such stops, by rising number, the first not below a number
abbrev pub are_good_from : Network → Query → Option ℕ → ℕ → List Reach → Bool
are_good_from nw q best least [] = true
are_good_from nw q best least (x ∷ xs) =
    nat_le least x.stop && (is_good_stop nw q best x && are_good_from nw q best (suc x.stop) xs)

-- the numbers of the stops are below n
abbrev pub AreBelow : ℕ → List Reach → Type 0
AreBelow n list = All (λ (x : Reach). x.stop < n) list
