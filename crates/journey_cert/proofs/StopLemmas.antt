-- Whether the stops that a certificate lists are good ones.
use Rattle.std.proofs.Common.{◌≡◌, ℕ, suc, ◌≤◌, ◌&&◌, Bool, true, false, not, nat_le, List, [], ◌∷◌, Option, sym, ◌∙◌, refl, arith}
use Rattle.std.specs.List.{All, AllPairs}
use Rattle.std.proofs.lemmas.Bool.{and_from, and_parts, both_ways, leb-true, le-leb}
use Rattle.std.proofs.lemmas.List.Elements.{All-cons, All-head, All-nil, All-tail, All-weaker}
use Rattle.std.proofs.lemmas.List.Kept.{AllPairs-cons}
use Rattle.mt_base.specs.declared.certificates.Reach.{Reach}
use Rattle.mt_base.specs.declared.journeys.Query.{Query}
use Rattle.delay_model.specs.declared.network.Network.{Network}
use Rattle.delay_model.specs.Journeys.{is_one_station}
use Rattle.delay_model.proofs.Lists.{AllPairs-after, AllPairs-nil, AllPairs-tail}
use Rattle.journey_laws.specs.Certificates.{AreEarlyStops, IsEarlyStop}
use Rattle.journey_laws.specs.Checked.{is_early_stop}
use Rattle.journey_laws.proofs.BestArrivals.{Rises}
use Rattle.journey_laws.proofs.CheckedLemmas.{early_stop-says, not-says}
use Rattle.journey_cert.specs.Stops.{are_good_from, is_good_stop}

module _ (nw : Network) (q : Query) (best : Option ℕ) where
  abbrev pub IsElsewhere : Reach → Type 0
  IsElsewhere x = is_one_station nw x.stop q.to_stop ≡ false

  -- they rise by number from n on, and each is a good one
  pub record AreGood (n : ℕ) (xs : List Reach) : Type 0 where
    pub least : All (λ (x : Reach). n ≤ x.stop) xs
    pub rise : AllPairs Rises xs
    pub early : All (IsEarlyStop nw best) xs
    pub elsewhere : All IsElsewhere xs

  good-from : (n : ℕ) (xs : List Reach) → are_good_from nw q best n xs ≡ true → AreGood n xs
  good-from n [] h = record { least = All-nil (λ (x : Reach). n ≤ x.stop); rise = AllPairs-nil Rises; early = All-nil (IsEarlyStop nw best); elsewhere = All-nil IsElsewhere }
  good-from n (x ∷ xs) h =
      let first = and_parts (nat_le n x.stop) (is_good_stop nw q best x && are_good_from nw q best (suc x.stop) xs) h in
      let second = and_parts (is_good_stop nw q best x) (are_good_from nw q best (suc x.stop) xs) first.1 in
      let good = and_parts (is_early_stop nw best x) (not (is_one_station nw x.stop q.to_stop)) second.0 in
      let rest = good-from (suc x.stop) xs second.1 in
      let le = leb-true n x.stop first.0 in
      record {
        least = All-cons (λ (x : Reach). n ≤ x.stop) x xs le (All-weaker (λ (y : Reach). suc x.stop ≤ y.stop) (λ (y : Reach). n ≤ y.stop) (λ y l. omega arith) xs rest.least);
        rise = AllPairs-cons Rises x xs (All-weaker (λ (y : Reach). suc x.stop ≤ y.stop) (Rises x) (λ y l. omega arith) xs rest.least) rest.rise;
        early = All-cons (IsEarlyStop nw best) x xs ((early_stop-says nw q best x).0 good.0) rest.early;
        elsewhere = All-cons IsElsewhere x xs ((not-says (is_one_station nw x.stop q.to_stop)).0 good.1) rest.elsewhere;
      }

  good-to : (n : ℕ) (xs : List Reach) → AreGood n xs → are_good_from nw q best n xs ≡ true
  good-to n [] h = refl
  good-to n (x ∷ xs) h =
      let good = and_from (is_early_stop nw best x) (not (is_one_station nw x.stop q.to_stop)) ((early_stop-says nw q best x).1 (All-head (IsEarlyStop nw best) x xs h.early)) ((not-says (is_one_station nw x.stop q.to_stop)).1 (All-head IsElsewhere x xs h.elsewhere)) in
      let rest = good-to (suc x.stop) xs (record {
        least = All-weaker (Rises x) (λ (y : Reach). suc x.stop ≤ y.stop) (λ y l. omega arith) xs (AllPairs-after Rises [] x xs h.rise);
        rise = AllPairs-tail Rises x xs h.rise;
        early = All-tail (IsEarlyStop nw best) x xs h.early;
        elsewhere = All-tail IsElsewhere x xs h.elsewhere;
      }) in
      and_from (nat_le n x.stop) _ (le-leb n x.stop (All-head (λ (x : Reach). n ≤ x.stop) x xs h.least)) (and_from (is_good_stop nw q best x) (are_good_from nw q best (suc x.stop) xs) good rest)

  -- where the test passes they are good
  pub stops-good : (list : List Reach) (r : Bool) → r ≡ are_good_from nw q best 0 list → r ≡ true → AreEarlyStops nw best list × All IsElsewhere list
  stops-good list r is passes = let good = good-from 0 list (sym is ∙ passes) in ((good.rise, good.early), good.elsewhere)

  -- and where they are, it does
  pub stops-refused : (list : List Reach) (r : Bool) → r ≡ are_good_from nw q best 0 list → r ≡ false → AreEarlyStops nw best list → All IsElsewhere list → ⊥
  stops-refused list r is fails early elsewhere =
      both_ways r fails (is ∙ good-to 0 list (record { least = λ k d l. omega arith; rise = early.0; early = early.1; elsewhere = elsewhere }))
