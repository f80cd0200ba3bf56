-- The state after the trains of runs were added, and rows by trip in place of the table's rows.
use Rattle.schedule_build.proofs.Words.{◌≡◌, ℕ, ◌+◌, ◌-◌, None, ◌<◌, ◌≤◌, List, [], ◌∷◌, ◌++◌, length, map, get_or, drop, All, refl, arith, append_assoc, append-nil, common_steps, Opts}
use Rattle.schedule_build.proofs.Words.{CallRow, rows_of, State, with_train, loaded-is, length-loaded, Run, run_calls, run_train, count_calls, schedule_of, pushed, IsFit, too_many}

-- a train has as many calls as were given
pub train-length : (calls : List CallRow) (r : Run) → length (run_train calls r).calls ≡ length (run_calls calls r)
train-length calls r = rw (← loaded-is (run_calls calls r)) (length-loaded _ 0 _)

pub pushed-is : (calls : List CallRow) (rs : List Run) (st : State) → pushed calls rs st ≡ record st { trains = st.trains ++ map (run_train calls) rs; spare_trains = st.spare_trains - length rs; spare_calls = st.spare_calls - count_calls calls rs }
pushed-is calls [] st = grind (arith, common_steps, append-nil)
pushed-is calls (r ∷ rs) st = grind (arith, common_steps, train-length calls r, pushed-is calls rs (with_train (run_train calls r) st), append_assoc)

-- what is left from a place on is the run there and what is left after it
pub drop-at : (rs : List Run) (i : ℕ) (r : Run) → i < length rs → r ≡ get_or rs i r → drop i rs ≡ r ∷ drop (i + 1) rs
drop-at rs i r l e = grind (arith, common_steps)

pub count-step : (calls : List CallRow) (rs : List Run) (i : ℕ) (r : Run) → i < length rs → r ≡ get_or rs i r → count_calls calls (drop i rs) ≡ length (run_calls calls r) + count_calls calls (drop (i + 1) rs)
count-step calls rs i r l e = grind (arith, common_steps)

pub count-same : (calls all : List CallRow) (rs : List Run) → ((trip : ℕ) → rows_of all trip ≡ rows_of calls trip) → count_calls all rs ≡ count_calls calls rs
count-same calls all rs same = simp same

trains-same : (calls all : List CallRow) (rs : List Run) → ((trip : ℕ) → rows_of all trip ≡ rows_of calls trip) → map (run_train all) rs ≡ map (run_train calls) rs
trains-same calls all [] same = refl
trains-same calls all (r ∷ rs) same = rw (same r.trip, trains-same calls all rs same) refl

pub schedule-same : (calls all : List CallRow) (rs : List Run) (o : Opts) → ((trip : ℕ) → rows_of all trip ≡ rows_of calls trip) → schedule_of all rs o ≡ schedule_of calls rs o
schedule-same calls all rs o same = cc (trains-same calls all rs same)

pub fit-same : (calls all : List CallRow) (rs : List Run) → ((trip : ℕ) → rows_of all trip ≡ rows_of calls trip) → All (IsFit calls) rs → All (IsFit all) rs
fit-same calls all rs same h = λ k r l.
    let f = h k r l in
    let e = same (get_or rs k r).trip in
    record { day = f.day; base = f.base; two_calls = rw e f.two_calls; in_order = rw e f.in_order }

-- neither too many trains nor too many nodes
pub few-enough : (calls : List CallRow) (rs : List Run) → length rs ≤ 200000 → count_calls calls rs ≤ 1000000 → too_many calls rs ≡ None
few-enough calls rs a b = grind (arith, common_steps)
