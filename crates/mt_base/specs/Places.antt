-- The kinds of places (GTFS Schedule, stops.txt).
use Rattle.std.specs.Prelude.{Bool, false, true}
use Rattle.mt_base.specs.declared.places.PlaceKind.{PlaceKind}
use Rattle.mt_base.specs.declared.places.PlaceKind.TheVariants.{Platform, Station}

-- a stop or platform, where trains call
abbrev pub is_platform : PlaceKind → Bool
is_platform Platform = true
is_platform kind = false

-- a station
abbrev pub is_station : PlaceKind → Bool
is_station Station = true
is_station kind = false

-- a stop, platform or station, where a journey can begin or end
abbrev pub is_platform_or_station : PlaceKind → Bool
is_platform_or_station Platform = true
is_platform_or_station Station = true
is_platform_or_station kind = false
