-- The entries of all live events, train by train.
use Rattle.edge_rules.proofs.Words.{◌≡◌, ℕ, suc, ◌+◌, List, [], ◌∷◌, ◌++◌, drop, slice_get, refl, sym, ◌∙◌, ap, arith, option_map_or, events_from, events_of, train_events, State, Train, entries_of}
use Rattle.edge_rules.proofs.EventChanges.{entries-append}

-- the events of a train and of those after it
one-train : (n i j : ℕ) (ts : List Train) → j ≡ suc i → option_map_or (events_of n) (slice_get ts i) [] ++ events_from (n + 1) (drop j ts) ≡ events_from n (drop i ts)
one-train n (suc i) j (t ∷ ts) is = rw is (one-train n i (suc i) ts refl)
one-train n i j ts is = grind arith

-- and their entries
pub listed-one : (st : State) (i : ℕ) → entries_of (train_events st i) ++ entries_of (events_from (i + 1) (drop (i + 1) st.trains)) ≡ entries_of (events_from i (drop i st.trains))
listed-one st i = sym (entries-append (train_events st i) _) ∙ ap entries_of (one-train i i (i + 1) st.trains (omega arith))
