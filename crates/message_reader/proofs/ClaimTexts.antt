-- Claims that are spelled are read back.
use Rattle.std.proofs.Common.{◌≡◌, ℕ, ◌+◌, ◌-◌, ◌*◌, ◌/◌, ◌%◌, ◌^◌, ◌<◌, ◌≤◌, List, [], ◌∷◌, ◌++◌, true, false, inl, inr, Option, Some, None, Ok, nat_lt, refl, ap, ◌∙◌, arith}
use Rattle.std.proofs.lemmas.Bool.{cases_lt}
use Rattle.std.proofs.lemmas.Bool.Decides.{nat_tests}
use Rattle.std.proofs.lemmas.Fmt.{decimal_digit, decimal_step}
use Rattle.std.proofs.lemmas.List.Elements.{recursion_from_All}
use Rattle.std.specs.List.{AllByRecursion}
use Rattle.mt_base.specs.Texts.{below, seconds_of, clock}
use Rattle.mt_base.specs.declared.certificates.Reach.{Reach}
use Rattle.mt_base.specs.declared.journeys.Query.{Query}
use Rattle.schedule_build.specs.Directory.{Names, date_of_day, base_of}
use Rattle.message_reader.specs.declared.check_lines.CheckLine.TheVariants as checks
use Rattle.message_reader.specs.declared.claims.Claim.{Claim}
use Rattle.message_reader.specs.declared.claims.ClaimRide.{ClaimRide}
use Rattle.message_reader.specs.CheckLines.{claim_said, check_said}
use Rattle.message_reader.specs.Claims.{few_digits, long_seconds_of, claim_time, ride_texts, ride_of, reach_texts, reach_stop, reach_of, claim_of}
use Rattle.message_reader.specs.Items.{items_shape, items_read}
use Rattle.message_reader.specs.Queries.{wire_time_of, query_of}
use Rattle.message_reader.specs.ResolvedQueries.{query_places, query_resolved}
use Rattle.message_reader.specs.Spelled.{two_digits, IsVersion}
use Rattle.message_reader.specs.SpelledClaims.{hours_text, long_time_text, time_on_day, ride_object, ride_objects, reach_object, reach_objects, claim_object}
use Rattle.message_reader.specs.SpelledClaims.{IsOnDay, CanBeRidden, CanBeReached, CanBeClaimed}
use Rattle.message_reader.proofs.SpelledLemmas.{digit_back, two_back, below_back, times_back, dates_back, label_back, version_tested}

-- ---- times

-- `:MM:SS`
abbrev minutes_text : ℕ → ℕ → List ℕ
minutes_text m x = 58 ∷ two_digits m ++ (58 ∷ two_digits x)

seconds-back : (u m x : ℕ) → u < 10 → m < 60 → x < 60 → seconds_of ((48 + u) ∷ minutes_text m x) ≡ Some (3600 * u + 60 * m + x)
unfolding seconds_of clock
seconds-back u m x hu hm hx = rw (digit_back u hu, two_back m (omega arith), below_back m hm, two_back x (omega arith), below_back x hx) refl

hours-of-two : (t u m x : ℕ) → t < 10 → u < 10 → m < 60 → x < 60 → long_seconds_of ((48 + t) ∷ (48 + u) ∷ minutes_text m x) ≡ Some (36000 * t + (3600 * u + 60 * m + x))
unfolding long_seconds_of few_digits
hours-of-two t u m x ht hu hm hx = rw (digit_back t ht, seconds-back u m x hu hm hx) refl

hours-of-three : (h t u m x : ℕ) → h < 10 → t < 10 → u < 10 → m < 60 → x < 60
    → long_seconds_of ((48 + h) ∷ (48 + t) ∷ (48 + u) ∷ minutes_text m x) ≡ Some (36000 * (10 * h + t) + (3600 * u + 60 * m + x))
unfolding long_seconds_of few_digits
hours-of-three h t u m x hh ht hu hm hx = rw (digit_back h hh, digit_back t ht, seconds-back u m x hu hm hx) refl

hours-of-four : (k h t u m x : ℕ) → k < 10 → h < 10 → t < 10 → u < 10 → m < 60 → x < 60
    → long_seconds_of ((48 + k) ∷ (48 + h) ∷ (48 + t) ∷ (48 + u) ∷ minutes_text m x) ≡ Some (36000 * (100 * k + (10 * h + t)) + (3600 * u + 60 * m + x))
unfolding long_seconds_of few_digits
hours-of-four k h t u m x hk hh ht hu hm hx = rw (digit_back k hk, digit_back h hh, digit_back t ht, seconds-back u m x hu hm hx) refl

few-hours : (h m x : ℕ) → h < 100 → m < 60 → x < 60 → long_seconds_of (hours_text h ++ minutes_text m x) ≡ Some (3600 * h + 60 * m + x)
few-hours h m x lt hm hx =
    let short : nat_lt h 100 ≡ true = grind (arith, nat_tests) in
    let sum : 36000 * (h / 10) + (3600 * (h % 10) + 60 * m + x) ≡ 3600 * h + 60 * m + x = omega arith in
    rw short (hours-of-two (h / 10) (h % 10) m x (omega arith) (omega arith) hm hx ∙ ap (λ (s : ℕ). Some s) sum)

some-hours : (h m x : ℕ) → 100 ≤ h → h < 1000 → m < 60 → x < 60 → long_seconds_of (hours_text h ++ minutes_text m x) ≡ Some (3600 * h + 60 * m + x)
some-hours h m x le lt hm hx =
    let long : nat_lt h 100 ≡ false = grind (arith, nat_tests) in
    let sum : 36000 * (10 * (h / 10 / 10) + h / 10 % 10) + (3600 * (h % 10) + 60 * m + x) ≡ 3600 * h + 60 * m + x = omega arith in
    rw (long, decimal_step h (omega arith) (omega arith), decimal_step (h / 10) (omega arith) (omega arith), decimal_digit (h / 10 / 10) (omega arith))
    (hours-of-three (h / 10 / 10) (h / 10 % 10) (h % 10) m x (omega arith) (omega arith) (omega arith) hm hx ∙ ap (λ (s : ℕ). Some s) sum)

many-hours : (h m x : ℕ) → 1000 ≤ h → h < 10000 → m < 60 → x < 60 → long_seconds_of (hours_text h ++ minutes_text m x) ≡ Some (3600 * h + 60 * m + x)
many-hours h m x le lt hm hx =
    let long : nat_lt h 100 ≡ false = grind (arith, nat_tests) in
    let sum : 36000 * (100 * (h / 10 / 10 / 10) + (10 * (h / 10 / 10 % 10) + h / 10 % 10)) + (3600 * (h % 10) + 60 * m + x) ≡ 3600 * h + 60 * m + x = omega arith in
    rw (
      long,
      decimal_step h (omega arith) (omega arith),
      decimal_step (h / 10) (omega arith) (omega arith),
      decimal_step (h / 10 / 10) (omega arith) (omega arith),
      decimal_digit (h / 10 / 10 / 10) (omega arith),
    )
    (hours-of-four (h / 10 / 10 / 10) (h / 10 / 10 % 10) (h / 10 % 10) (h % 10) m x (omega arith) (omega arith) (omega arith) (omega arith) hm hx ∙ ap (λ (s : ℕ). Some s) sum)

hours-back : (h m x : ℕ) → h < 10000 → m < 60 → x < 60 → long_seconds_of (hours_text h ++ minutes_text m x) ≡ Some (3600 * h + 60 * m + x)
hours-back h m x lt hm hx =
    elim (cases_lt h 100) [
      | inl few ↦ few-hours h m x few hm hx
      | inr more ↦ elim (cases_lt h 1000) [ inl some ↦ some-hours h m x more some hm hx | inr many ↦ many-hours h m x many lt hm hx ]
    ]

clocks-back : (s : ℕ) → s < 36000000 → long_seconds_of (long_time_text s) ≡ Some s
unfolding long_time_text
clocks-back s lt =
    let sum : 3600 * (s / 3600) + 60 * (s / 60 % 60) + s % 60 ≡ s = omega arith in
    hours-back (s / 3600) (s / 60 % 60) (s % 60) (omega arith) (omega arith) (omega arith) ∙ ap (λ (n : ℕ). Some n) sum

time_below : (n : ℕ) → n < 2 ^ 25 → below (2 ^ 25) n ≡ Some n
time_below n lt = grind (arith, nat_tests)

pub claim_times_back : (names : Names) (day time : ℕ) → IsOnDay names day time → claim_time names day (time_on_day names day time) ≡ Some time
unfolding claim_time
claim_times_back names day time on =
    let base = base_of names day in
    let le : base ≤ time = on.0 in
    let lt : time < 2 ^ 25 = on.1 in
    let sum : base + (time - base) ≡ time = omega arith in
    rw (clocks-back (time - base) (omega arith), sum, time_below time lt) refl

-- ---- lists

ride-back : (r : ClaimRide) → CanBeRidden r → ride_of (ride_object r) ≡ Ok r
unfolding ride_of ride_texts
ride-back r can = rw (label_back r.board can.1, label_back r.alight can.2, dates_back r.date can.0) refl

rides-shaped : (rs : List ClaimRide) → AllByRecursion CanBeRidden rs → items_shape ride_texts (ride_objects rs) ≡ Ok tt
unfolding items_shape ride_objects ride_texts
rides-shaped [] can = refl
rides-shaped (r ∷ rs) can = rw (label_back r.board can.0.1, label_back r.alight can.0.2) (rides-shaped rs can.1)

rides-back : (rs : List ClaimRide) → AllByRecursion CanBeRidden rs → items_read ride_of (ride_objects rs) ≡ Ok rs
unfolding items_read ride_objects
rides-back [] can = refl
rides-back (r ∷ rs) can = rw (ride-back r can.0, rides-back rs can.1) refl

reached-shaped : (names : Names) (day : ℕ) (xs : List Reach) → items_shape reach_texts (reach_objects names day xs) ≡ Ok tt
unfolding items_shape reach_objects reach_texts
reached-shaped names day [] = refl
reached-shaped names day (x ∷ xs) = reached-shaped names day xs

stops-shaped : (names : Names) (day : ℕ) (xs : List Reach) → AllByRecursion (CanBeReached names day) xs → items_shape (reach_stop names) (reach_objects names day xs) ≡ Ok tt
unfolding items_shape reach_objects reach_stop reach_texts
stops-shaped names day [] can = refl
stops-shaped names day (x ∷ xs) can = rw can.0.0 (stops-shaped names day xs can.1)

reach-back : (names : Names) (day : ℕ) (x : Reach) → CanBeReached names day x → reach_of names day (reach_object names day x) ≡ Ok x
unfolding reach_of reach_texts
reach-back names day x can = rw (can.0, claim_times_back names day x.time can.1) refl

reached-back : (names : Names) (day : ℕ) (xs : List Reach) → AllByRecursion (CanBeReached names day) xs → items_read (reach_of names day) (reach_objects names day xs) ≡ Ok xs
unfolding items_read reach_objects
reached-back names day [] can = refl
reached-back names day (x ∷ xs) can = rw (reach-back names day x can.0, reached-back names day xs can.1) refl

-- ---- claims

abbrev claim_with : ℕ → Query → Option ℕ → List ClaimRide → List Reach → Claim
claim_with day q arrives rides reached = record { day = day; query = q; arrives = arrives; rides = rides; reached = reached }

claim-back : (names : Names) (v : ℕ) (client : List ℕ) (day : ℕ) (q : Query) (arrives : Option ℕ) (rides : List ClaimRide) (reached : List Reach) → IsVersion v
    → CanBeClaimed names (claim_with day q arrives rides reached)
    → check_said names (claim_object names v client (claim_with day q arrives rides reached)) ≡ Ok (checks.Claim (claim_with day q arrives rides reached))
unfolding check_said claim_said claim_of query_of wire_time_of query_places query_resolved
claim-back names v client day q None rides reached is can =
    let begins = can.begins in
    let sum : base_of names day + (q.time - base_of names day) ≡ q.time = omega arith in
    rw (
      version_tested v is,
      rides-shaped rides (recursion_from_All CanBeRidden rides can.rides),
      reached-shaped names day reached,
      can.from,
      can.to,
      stops-shaped names day reached (recursion_from_All (CanBeReached names day) reached can.reached),
      dates_back (date_of_day names day) can.civil,
      times_back (q.time - base_of names day) can.soon,
      can.day,
      rides-back rides (recursion_from_All CanBeRidden rides can.rides),
      reached-back names day reached (recursion_from_All (CanBeReached names day) reached can.reached),
      sum,
    ) refl
claim-back names v client day q (Some time) rides reached is can =
    let begins = can.begins in
    let sum : base_of names day + (q.time - base_of names day) ≡ q.time = omega arith in
    rw (
      version_tested v is,
      rides-shaped rides (recursion_from_All CanBeRidden rides can.rides),
      reached-shaped names day reached,
      can.from,
      can.to,
      stops-shaped names day reached (recursion_from_All (CanBeReached names day) reached can.reached),
      dates_back (date_of_day names day) can.civil,
      times_back (q.time - base_of names day) can.soon,
      can.day,
      claim_times_back names day time can.arrives,
      rides-back rides (recursion_from_All CanBeRidden rides can.rides),
      reached-back names day reached (recursion_from_All (CanBeReached names day) reached can.reached),
      sum,
    ) refl

pub claims_back : (names : Names) (v : ℕ) (client : List ℕ) (c : Claim) → IsVersion v → CanBeClaimed names c → check_said names (claim_object names v client c) ≡ Ok (checks.Claim c)
claims_back names v client c is can = claim-back names v client c.day c.query c.arrives c.rides c.reached is can
