-- Marked keys are no more than those of which they are.
use Rattle.std.proofs.Common.{◌≡◌, ◌≢◌, ◌<◌, ◌≤◌, ◌∷◌, false, List, subst, sym, arith, length, get_or}
use Rattle.std.specs.Bool.{Decides}
use Rattle.std.specs.List.{All, AllPairs, Contains}
use Rattle.std.specs.Ordering.{eq_by_cmp}
use Rattle.std.proofs.lemmas.Cmp.{eq_by_cmp_equiv, tied_itself}
use Rattle.std.proofs.lemmas.List.Elements.{All-cons, All-contains}
use Rattle.std.proofs.lemmas.List.Folds.{Any-from_list_any, list_any_at}
use Rattle.std.proofs.lemmas.List.Kept.{AllPairs-cons}
use Rattle.std.proofs.lemmas.Map.Made.{IsDistinct-from_AllPairs, length-le_from_is_member}
use Rattle.std.proofs.lemmas.Map.Views.{list_any-from_Contains}
use Rattle.mt_base.specs.declared.keys.Key.{Key}
use Rattle.mt_base.specs.Order.{is_same, key_cmp}
use Rattle.mt_base.proofs.KeyLemmas.{before-itself, exact_keys, keys_total, same-itself}
use Rattle.rank_order.specs.Marked.{Ascends, has_key}

pub same-decides : (a b : Key) → Decides (eq_by_cmp key_cmp a b) (a ≡ b)
same-decides a b = (λ e. grind (arith, exact_keys a b), λ e. rw e (grind (arith, tied_itself keys_total b)))

-- no two keys that ascend are one
pub ascend-differ : (ks : List Key) → Ascends ks → AllPairs (λ a b. a ≢ b) ks
ascend-differ ks up = λ i j d l m e. let before = rw e at (up i j d l m) in let no = before-itself (get_or ks j d) in absurd (cc)

-- a key of these that is not marked, where all that are marked are of these
pub room-left : (ks xs : List Key) (k : Key) → Ascends ks → All (Contains xs) ks → Contains xs k → has_key ks k ≡ false → length ks < length xs
room-left ks xs k up known there none =
    let differ : AllPairs (λ a b. a ≢ b) (k ∷ ks) = AllPairs-cons (λ a b. a ≢ b) k ks
    (λ i d l e. let marked = list_any_at (λ q. is_same q k) ks i d l (rw (← e) (same-itself k)) in let no = none in absurd (cc)) (ascend-differ ks up) in
    let all : All (Contains xs) (k ∷ ks) = All-cons (Contains xs) k ks there known in
    let fewer : length (k ∷ ks) ≤ length xs = length-le_from_is_member (eq_by_cmp_equiv keys_total) (k ∷ ks) xs (IsDistinct-from_AllPairs same-decides (k ∷ ks) differ) (λ q h.
    let one = Any-from_list_any (eq_by_cmp key_cmp q) (k ∷ ks) h in
    list_any-from_Contains (eq_by_cmp_equiv keys_total) q xs (subst (Contains xs) (sym ((same-decides q one.1).0 one.4)) (All-contains (Contains xs) (k ∷ ks) one.1 all (one.0, one.2, one.3)))) in
    omega (arith, fewer)
