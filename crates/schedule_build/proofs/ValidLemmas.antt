-- The schedule's state is valid, and has room.
use Rattle.schedule_build.proofs.Words.{Tables, ◌≡◌, ℕ, ◌+◌, ◌^◌, ◌<◌, ◌≤◌, List, [], ◌∷◌, Some, None, length, map, All, sym, ◌∙◌, arith, suc, length-map, common_steps, All-map, Opts}
use Rattle.schedule_build.proofs.Words.{CallRow, Network, events_of, AtEach, IsGood, each-from, each-none, events-from_each, valid-from, Run, IsFit, run_calls, run_train, count_calls}
use Rattle.schedule_build.proofs.Words.{schedule_of, too_many, IsLawful, schedule}
use Rattle.std.specs.FinMap.{get-empty, len-empty}
use Rattle.std.proofs.lemmas.List.Sums.{get_or-le-sum_by}
use Rattle.mt_base.specs.Options.{IsInRange}
use Rattle.delay_model.specs.declared.overrides.Override.{Override}
use Rattle.delay_model.specs.declared.state.Train.{Train}
use Rattle.delay_model.specs.Events.{events}
use Rattle.delay_model.specs.Overrides.{connection_cmp}
use Rattle.delay_model.specs.Valid.{HasRoom, IsValid}
use Rattle.schedule_build.specs.Bases.{AreBases}
use Rattle.schedule_build.proofs.SmallTimes.{run-small, calls-timely}
use Rattle.schedule_build.proofs.FitLemmas.{runs-fit}
use Rattle.schedule_build.proofs.GoodTrains.{loaded-good, loaded-silent}

-- what holds of the train of each run, in whichever place, holds of the trains
trains-each : (Q : ℕ → Train → Type 0) (calls : List CallRow) → ((n : ℕ) (r : Run) → IsFit calls r → Q n (run_train calls r)) → (first : ℕ) (rs : List Run) → All (IsFit calls) rs → AtEach Q first (map (run_train calls) rs)
trains-each Q calls each first [] h = each-none Q first
trains-each Q calls each first (r ∷ rs) h =
    each-from Q first _ _ (each first r (h 0 r (omega arith))) (trains-each Q calls each (first + 1) rs (λ k d l. h (suc k) d (omega arith)))

module _ (t : Tables) (first days : ℕ) (bases : List ℕ) (o : Opts) (lawful : IsLawful t) (few : days ≤ 31) (are : AreBases days bases) where
  pub schedule-valid : (nw : Network) → nw.opts ≡ o → IsInRange o → IsValid nw (schedule t first days bases o)
  schedule-valid nw same ranges =
      valid-from nw (schedule t first days bases o) (rw same ranges)
      (trains-each (IsGood nw) t.calls (λ n r f. loaded-good nw n r.day r.route (run_calls t.calls r) (run-small t.calls r (calls-timely t lawful) f.base) f.in_order) 0 _ (runs-fit t first days bases lawful few are))
      (λ p choice got. let none : None ≡ Some choice = sym (get-empty connection_cmp p) ∙ got in absurd (cc))

  pub schedule-silent : All (λ v. v.report ≡ None) (events (schedule t first days bases o))
  unfolding events
  schedule-silent =
      events-from_each (λ v. v.report ≡ None) 0 _ (trains-each (λ n u. All (λ v. v.report ≡ None) (events_of n u)) t.calls
      (λ n r f. loaded-silent n r.day r.route (run_calls t.calls r) (run-small t.calls r (calls-timely t lawful) f.base)) 0 _ (runs-fit t first days bases lawful few are))

few-of : (calls : List CallRow) (rs : List Run) → too_many calls rs ≡ None → (length rs ≤ 200000) × (count_calls calls rs ≤ 1000000)
few-of calls rs h = grind (arith, common_steps)

pub schedule-room : (calls : List CallRow) (rs : List Run) (o : Opts) → IsInRange o → too_many calls rs ≡ None → HasRoom (schedule_of calls rs o)
schedule-room calls rs o ranges h =
    let few = few-of calls rs h in
    let empty = len-empty connection_cmp Override in
    record {
      trains = omega (arith, few.0, length-map rs (run_train calls), ranges.spare_trains);
      calls = All-map (λ t. t.next_label + o.spare_calls < 2 ^ 32) (run_train calls) rs (λ i d l. omega (arith, few.1, ranges.spare_calls, get_or-le-sum_by (λ r. length (run_calls calls r)) rs i d l));
      spare = omega (arith, ranges.spare_trains, ranges.spare_calls);
      overrides = omega (arith, empty, ranges.overrides);
    }
