-- What an object says that claims an answer to a query, by the names of a timetable, as this one:
-- {"v":2,"type":"claim","client":"c1","from":"A","to":"D","date":"20260105","time":"08:00:00",
--   "arrives":"09:10:00","rides":[{"trip":"T1","date":"20260105","board":0,"alight":1},
--   {"trip":"T2","date":"20260105","board":0,"alight":1}],
--   "reached":[{"stop":"B1","time":"08:30:00"},{"stop":"C","time":"09:00:00"}]}
-- The faults, in order: `Shape`, a member of the object, of a ride or of a reached stop is absent
-- or of another kind; `Stop`, a place of the query is none, or a reached stop is no id of a stop;
-- and `Time`, the date or the time of the query is none, `arrives` is not null and no time of a
-- claim, the date of a ride is no civil date, or the time of a reached stop is none of a claim.
use Rattle.std.specs.Prelude.{ℕ, ◌+◌, ◌-◌, ◌*◌, ◌^◌, List, [], ◌∷◌, take, drop, length, Some, None, option_map, option_and_then, Result, Ok, codes}
use Rattle.std.specs.declared.option.Option.{Option}
use Rattle.serde_json.specs.Data.{Data}
use Rattle.mt_base.specs.Texts.{below, digit, two, seconds_of, date_of}
use Rattle.mt_base.specs.declared.certificates.Cert.{Cert}
use Rattle.mt_base.specs.declared.certificates.CertRide.{CertRide}
use Rattle.mt_base.specs.declared.certificates.Reach.{Reach}
use Rattle.schedule_build.specs.Directory.{Names, day_named, train_named, base_of}
use Rattle.message_reader.specs.declared.bad_line.BadLine.{BadLine}
use Rattle.message_reader.specs.declared.bad_line.BadLine.TheVariants.{Shape, Stop, Time}
use Rattle.message_reader.specs.declared.claims.Claim.{Claim}
use Rattle.message_reader.specs.declared.claims.ClaimRide.{ClaimRide}
use Rattle.message_reader.specs.Chain.{◌>>=◌, need}
use Rattle.message_reader.specs.Fields.{text_at, text_or_null_at, label_at, items_at}
use Rattle.message_reader.specs.Items.{items_shape, items_read}
use Rattle.message_reader.specs.Queries.{query_of}
use Rattle.message_reader.specs.Resolved.{stop_named}
use Rattle.message_reader.specs.ResolvedQueries.{query_places, query_resolved}

-- ---- times

-- the number of at most three digits; 0 where there is none
unfoldable pub few_digits : List ℕ → Option ℕ
few_digits [] = Some 0
few_digits (c ∷ []) = digit c
few_digits (b ∷ c ∷ []) = two b c
few_digits (a ∷ b ∷ c ∷ []) =
    option_and_then (λ hundreds. option_and_then (λ rest. Some (100 * hundreds + rest)) (two b c))
    (digit a)
few_digits bytes = None

-- `H:MM:SS` with one to four digits of hours, in seconds: the last seven bytes are H:MM:SS, and
-- what stands before them counts tens of hours
unfoldable pub long_seconds_of : List ℕ → Option ℕ
long_seconds_of bytes =
    option_and_then (λ tens. option_and_then (λ secs. Some (36000 * tens + secs))
    (seconds_of (drop (length bytes - 7) bytes)))
    (few_digits (take (length bytes - 7) bytes))

-- the time that such a text names on a service day, in seconds from the base of day 0, if it is
-- below 2^25, as all times are
unfoldable pub claim_time : Names → ℕ → List ℕ → Option ℕ
claim_time names day text =
    option_and_then (λ secs. below (2 ^ 25) (base_of names day + secs)) (long_seconds_of text)

-- the time of a text, or no time where there is no text
abbrev pub claim_time_if_any : Names → ℕ → Option (List ℕ) → Option (Option ℕ)
claim_time_if_any names day None = Some None
claim_time_if_any names day (Some text) = option_map (λ time. Some time) (claim_time names day text)

-- ---- rides

-- what the object of a ride has: the train by `trip` and `date`, and the labels `board` and
-- `alight` of two of its calls
pub record RideTexts : Type 0 where
  pub trip : List ℕ
  pub date : List ℕ
  pub board : ℕ
  pub alight : ℕ

unfoldable pub ride_texts : Data → Result RideTexts BadLine
ride_texts d = do
  trip ← need Shape (text_at (codes "trip") d)
  date ← need Shape (text_at (codes "date") d)
  board ← need Shape (label_at (codes "board") d)
  alight ← need Shape (label_at (codes "alight") d)
  Ok (record { trip = trip; date = date; board = board; alight = alight })

-- the ride that it names
unfoldable pub ride_of : Data → Result ClaimRide BadLine
ride_of d = do
  texts ← ride_texts d
  day ← need Time (date_of texts.date)
  Ok (record { trip = texts.trip; date = day; board = texts.board; alight = texts.alight })

-- ---- reached stops

-- what the object of a reached stop has: the texts `stop` and `time`
pub record ReachTexts : Type 0 where
  pub stop : List ℕ
  pub time : List ℕ

unfoldable pub reach_texts : Data → Result ReachTexts BadLine
reach_texts d = do
  stop ← need Shape (text_at (codes "stop") d)
  time ← need Shape (text_at (codes "time") d)
  Ok (record { stop = stop; time = time })

-- the stop that it names
unfoldable pub reach_stop : Names → Data → Result ℕ BadLine
reach_stop names d = do
  texts ← reach_texts d
  need Stop (stop_named names texts.stop)

-- the stop and the time that it names, on a service day
unfoldable pub reach_of : Names → ℕ → Data → Result Reach BadLine
reach_of names day d = do
  texts ← reach_texts d
  stop ← need Stop (stop_named names texts.stop)
  time ← need Time (claim_time names day texts.time)
  Ok (record { stop = stop; time = time })

-- ---- claims

-- `claim`: the members of a query; `arrives`, the arrival that is claimed, which may be null; its
-- rides, `rides`; and the stops with times that are to show that no journey arrives earlier,
-- `reached`. All times lie on the service day of the query
unfoldable pub claim_of : Names → Data → Result Claim BadLine
claim_of names d = do
  query ← query_of d
  arrival ← need Shape (text_or_null_at (codes "arrives") d)
  ride_items ← need Shape (items_at (codes "rides") d)
  reach_items ← need Shape (items_at (codes "reached") d)
  _ ← items_shape ride_texts ride_items
  _ ← items_shape reach_texts reach_items
  _ ← query_places names query
  _ ← items_shape (reach_stop names) reach_items
  asked ← query_resolved names query
  arrives ← need Time (claim_time_if_any names asked.day arrival)
  rides ← items_read ride_of ride_items
  reached ← items_read (reach_of names asked.day) reach_items
  Ok (record {
    day = asked.day;
    query = asked.query;
    arrives = arrives;
    rides = rides;
    reached = reached;
  })

-- ---- claims by number

-- the ride by number, if its train is known
unfoldable pub ride_resolved : Names → ClaimRide → Option CertRide
ride_resolved names r =
    option_and_then (λ day. option_and_then (λ train.
    Some (record { train = train; board = r.board; alight = r.alight }))
    (train_named names r.trip day)) (day_named names r.date)

-- the rides by number, if the train of each is known
unfoldable pub rides_resolved : Names → List ClaimRide → Option (List CertRide)
rides_resolved names [] = Some []
rides_resolved names (r ∷ rs) =
    option_and_then (λ ride. option_and_then (λ rides. Some (ride ∷ rides))
    (rides_resolved names rs)) (ride_resolved names r)

-- the certificate that a claim stands for, if each train of it is known
unfoldable pub claim_resolved : Names → Claim → Option Cert
claim_resolved names c =
    option_and_then (λ rides.
    Some (record { arrives = c.arrives; rides = rides; reached = c.reached }))
    (rides_resolved names c.rides)
