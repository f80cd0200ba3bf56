-- What is known once the first numbers of rides are begun.
use Rattle.conn_scan.proofs.Words.{◌≡◌, ℕ, zero, suc, ◌≤◌, ◌<◌, List, [], ◌∷◌, length, set, refl, ap, arith, ChangeTables, Query}
use Rattle.pareto_scan.specs.Levels.{begun_level, begun_levels, has_more, is_more, level_at}
use Rattle.pareto_scan.specs.declared.level.Level.{Level}

module _ (t : ChangeTables) (q : Query) where
  -- the first so many of them are begun
  abbrev pub begun_some : ℕ → List Level → List Level
  begun_some zero vs = vs
  begun_some (suc n) [] = []
  begun_some (suc n) (v ∷ vs) = begun_level t q (is_more vs) v ∷ begun_some n vs

  pub begun-next : (n : ℕ) (vs : List Level) → n < length vs → set (begun_some n vs) n (begun_level t q (has_more vs n) (level_at (begun_some n vs) n)) ≡ begun_some (suc n) vs
  begun-next zero [] within = absurd (omega arith)
  begun-next zero (v ∷ vs) within = refl
  begun-next (suc n) [] within = absurd (omega arith)
  begun-next (suc n) (v ∷ vs) within = ap (λ ws. begun_level t q (is_more vs) v ∷ ws) (begun-next n vs (omega arith))

  pub begun-all : (n : ℕ) (vs : List Level) → length vs ≤ n → begun_some n vs ≡ begun_levels t q vs
  begun-all zero [] all = refl
  begun-all zero (v ∷ vs) all = absurd (omega arith)
  begun-all (suc n) [] all = refl
  begun-all (suc n) (v ∷ vs) all = ap (λ ws. begun_level t q (is_more vs) v ∷ ws) (begun-all n vs (omega arith))

  pub length-begun : (n : ℕ) (vs : List Level) → length (begun_some n vs) ≡ length vs
  length-begun zero vs = refl
  length-begun (suc n) [] = refl
  length-begun (suc n) (v ∷ vs) = ap suc (length-begun n vs)

  -- what is left stands as it was
  pub begun-left : (n k : ℕ) (vs : List Level) → n ≤ k → level_at (begun_some n vs) k ≡ level_at vs k
  begun-left zero k vs le = refl
  begun-left (suc n) k [] le = refl
  begun-left (suc n) zero (v ∷ vs) le = absurd (omega arith)
  begun-left (suc n) (suc k) (v ∷ vs) le = begun-left n k vs (omega arith)
