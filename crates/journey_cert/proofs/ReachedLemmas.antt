-- The stops that a search found, by number.
use Rattle.std.proofs.Common.{◌≡◌, inl, inr, ℕ, suc, ◌≤◌, ◌<◌, List, [], ◌∷◌, ◌++◌, Option, Some, None, sym, ◌∙◌, subst, arith}
use Rattle.std.specs.List.{All}
use Rattle.std.proofs.lemmas.Bool.{cases_Bool}
use Rattle.std.proofs.lemmas.List.{append-nil}
use Rattle.std.proofs.lemmas.List.Elements.{All-append, All-cons, All-head, All-nil, All-weaker}
use Rattle.mt_base.specs.declared.certificates.Reach.{Reach}
use Rattle.conn_scan.specs.ScratchState.{early_from, early_stop}
use Rattle.journey_laws.specs.Checked.{is_early}
use Rattle.journey_laws.proofs.Forward.{All-right}
use Rattle.journey_cert.specs.Stops.{AreBelow}

-- those from a number on are not below it
stop-least : (best : Option ℕ) (b : ℕ) (t : Option ℕ) → All (λ (x : Reach). b ≤ x.stop) (early_stop best b t)
stop-least best b None = All-nil (λ (x : Reach). b ≤ x.stop)
stop-least best b (Some t) = elim (cases_Bool (is_early best t)) [
  | inl early ↦ rw early (All-cons (λ (x : Reach). b ≤ x.stop) (record { stop = b; time = t }) [] (omega arith) (All-nil (λ (x : Reach). b ≤ x.stop)))
  | inr late ↦ rw late (All-nil (λ (x : Reach). b ≤ x.stop))
]

from-least : (best : Option ℕ) (b : ℕ) (held : List (Option ℕ)) → All (λ (x : Reach). b ≤ x.stop) (early_from best b held)
from-least best b [] = All-nil (λ (x : Reach). b ≤ x.stop)
from-least best b (t ∷ held) =
    All-append (λ (x : Reach). b ≤ x.stop) (early_stop best b t) (early_from best (suc b) held) (stop-least best b t)
    (All-weaker (λ (x : Reach). suc b ≤ x.stop) (λ (x : Reach). b ≤ x.stop) (λ x le. omega arith) (early_from best (suc b) held) (from-least best (suc b) held))

none-after : (n b : ℕ) → n ≤ b → (list rest all : List Reach) → list ++ rest ≡ all → All (λ (x : Reach). b ≤ x.stop) rest → AreBelow n all → list ≡ all
none-after n b le list [] all whole least below = sym (append-nil list) ∙ whole
none-after n b le list (x ∷ rest) all whole least below =
    let there = All-right (λ (x : Reach). x.stop < n) list (x ∷ rest) (subst (AreBelow n) (sym whole) below) in
    let less = All-head (λ (x : Reach). x.stop < n) x rest there in
    let more = All-head (λ (x : Reach). b ≤ x.stop) x rest least in
    absurd (omega arith)

-- where all stops are below a number, those before it are all
pub all-listed : (best : Option ℕ) (n b : ℕ) → n ≤ b → (held : List (Option ℕ)) (list all : List Reach) → list ++ early_from best b held ≡ all → AreBelow n all → list ≡ all
all-listed best n b le held list all whole below = none-after n b le list (early_from best b held) all whole (from-least best b held) below
