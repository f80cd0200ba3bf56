-- The rules that fit are those of six parts.
use Rattle.waiting_rules.proofs.Words.{◌≡◌, ℕ, ◌+◌, ◌<◌, min, Bool, true, false, ◌&&◌, ◌||◌, List, length, take, get_or, Option, Some, None, Ordering, refl, sym, ◌∙◌, ap, Less, Equal, Greater, list_any, position_or_len, option_cmp, nat_cmp, ordering_then, is_eq, RuleRow, is_empty_or, Connecting, trains, is_in, scope, makes_wait, is_for, connecting_cmp, connecting_of, is_connecting, has_scope, all_connecting}
use Rattle.std.proofs.lemmas.List.Folds.{list_any_more}
use Rattle.waiting_rules.proofs.Anys.{any-and}
use Rattle.waiting_rules.proofs.Firsts.{first-either, first-agree}
use Rattle.waiting_rules.proofs.Orders.{then-eq, tie-eq}

or-false : (b : Bool) → (b || false) ≡ b
or-false true = refl
or-false false = refl

and-true : (b : Bool) → b ≡ (b && true)
and-true true = refl
and-true false = refl

and-none : (b : Bool) → false ≡ (b && false)
and-none true = refl
and-none false = refl

-- one route: the rule's stop is one of two, or there is none
both : (r a b : Ordering) → (is_eq (ordering_then r a) || (is_eq (ordering_then r b) || (is_eq (ordering_then r Less) || false))) ≡ (is_eq r && (is_eq a || is_eq b))
both Less a b = refl
both Equal a b = ap (λ x. is_eq a || x) (or-false (is_eq b))
both Greater a b = refl

anywhere : (r : Ordering) → (is_eq (ordering_then r Greater) || (is_eq (ordering_then r Greater) || (is_eq (ordering_then r Equal) || false))) ≡ (is_eq r && true)
anywhere Less = refl
anywhere Equal = refl
anywhere Greater = refl

six : (route stop station : ℕ) (c s : Option ℕ) → list_any (λ k. is_eq (connecting_cmp k (trains c s))) (all_connecting route stop station) ≡ (is_empty_or c route && (is_empty_or s stop || is_empty_or s station))
six route stop station None None = refl
six route stop station None (Some t) = ap (λ x. is_eq (nat_cmp stop t) || x) (or-false (is_eq (nat_cmp station t))) ∙ (λ i. tie-eq stop t i || tie-eq station t i)
six route stop station (Some m) None = anywhere (nat_cmp route m) ∙ ap (λ x. x && true) (tie-eq route m)
six route stop station (Some m) (Some t) = both (nat_cmp route m) (nat_cmp stop t) (nat_cmp station t) ∙ (λ i. tie-eq route m i && (tie-eq stop t i || tie-eq station t i))

-- the rule makes these trains wait where it has one of six kinds of fields
pub six-connecting : (route stop station : ℕ) (rule : RuleRow) → list_any (λ c. is_connecting c rule) (all_connecting route stop station) ≡ makes_wait route stop station rule
six-connecting route stop station rule = six route stop station rule.connecting rule.stop

-- the rule has the scope of some trains where it makes some of them wait, with this field
in-trains : (all : List Connecting) (feeder : Option ℕ) (rule : RuleRow) → is_in all feeder rule ≡ (list_any (λ c. is_connecting c rule) all && is_eq (option_cmp nat_cmp feeder rule.feeder))
in-trains all feeder rule =
    ap (λ t. list_any t all) (λ i c. then-eq (connecting_cmp c (connecting_of rule)) (option_cmp nat_cmp feeder rule.feeder) i)
    ∙ any-and (λ c. is_connecting c rule) (is_eq (option_cmp nat_cmp feeder rule.feeder)) all

feeders : (w : Bool) (n : ℕ) (f : Option ℕ) → ((w && is_eq (option_cmp nat_cmp None f)) || (w && is_eq (option_cmp nat_cmp (Some n) f))) ≡ (is_empty_or f n && w)
feeders true n None = refl
feeders false n None = refl
feeders true n (Some m) = tie-eq n m ∙ and-true (is_empty_or (Some m) n)
feeders false n (Some m) = and-none (is_empty_or (Some m) n)

-- the rules that fit are those of six kinds of fields, with no feeder's route or with that one
fits : (feeder route stop station : ℕ) (rule : RuleRow) → (is_in (all_connecting route stop station) None rule || is_in (all_connecting route stop station) (Some feeder) rule) ≡ is_for feeder route stop station rule
fits feeder route stop station rule =
    (λ i. in-trains (all_connecting route stop station) None rule i || in-trains (all_connecting route stop station) (Some feeder) rule i)
    ∙ feeders (list_any (λ c. is_connecting c rule) (all_connecting route stop station)) feeder rule.feeder
    ∙ ap (λ w. is_empty_or rule.feeder feeder && w) (six-connecting route stop station rule)

-- the first rule that fits
pub first-fits : (rules : List RuleRow) (feeder route stop station n k : ℕ) → n ≡ position_or_len (is_in (all_connecting route stop station) None) rules → k ≡ min n (position_or_len (is_in (all_connecting route stop station) (Some feeder)) rules) → k ≡ position_or_len (is_for feeder route stop station) rules
first-fits rules feeder route stop station n k all one =
    let trains = all_connecting route stop station in
    one ∙ ap (λ m. min m (position_or_len (is_in trains (Some feeder)) rules)) all
    ∙ sym (first-either (is_in trains None) (is_in trains (Some feeder)) rules)
    ∙ first-agree (λ rule. is_in trains None rule || is_in trains (Some feeder) rule) (is_for feeder route stop station) rules (λ i d l. fits feeder route stop station (get_or rules i d))

-- the first rule for one more of the trains
pub first-more : (rules : List RuleRow) (trains : List Connecting) (feeder : Option ℕ) (i : ℕ) (d : Connecting) → i < length trains → position_or_len (is_in (take (i + 1) trains) feeder) rules ≡ min (position_or_len (is_in (take i trains) feeder) rules) (position_or_len (has_scope (scope (get_or trains i d) feeder)) rules)
first-more rules trains feeder i d l =
    ap (λ t. position_or_len t rules) (λ j rule. list_any_more (λ (c : Connecting). has_scope (scope c feeder) rule) trains i d l j)
    ∙ first-either (is_in (take i trains) feeder) (has_scope (scope (get_or trains i d) feeder)) rules
