-- Entries that are taken place by place.
use Rattle.query_crew.proofs.Words.{◌≡◌, ◌<◌, ◌≤◌, ◌%◌, ⊎_elim, ℕ, zero, suc, ◌+◌, List, [], ◌∷◌, ◌++◌, length, slice_get, set, Option, Some, None, IsSome, refl, sym, ap, ◌∙◌, arith, length-set, get_or-set_other, same_Some, sum, Reply, WindowLine, answer_for, chosen, reply_for, AreJoined}
use Rattle.std.proofs.Common.{get_or}
use Rattle.query_crew.specs.declared.window_line.WindowLine.TheVariants as shown
use Rattle.query_crew.specs.Joining.{IsSameBehind}
use Rattle.query_crew.proofs.WorkLemmas.{at-end}

-- the entries from this place on are the same
pub record IsSameFrom (place : ℕ) (xs ys : List (Option Reply)) : Type 0 where
  pub count : length ys ≡ length xs
  pub from : (p : ℕ) → place ≤ p → get_or ys p None ≡ get_or xs p None

pub same-behind : (place : ℕ) (xs : List (Option Reply)) → IsSameBehind place xs xs
same-behind place xs = record { count = refl; behind = λ p l. refl }

pub same-from-next : (place : ℕ) (xs ys zs : List (Option Reply)) → IsSameFrom place xs ys → IsSameBehind place ys zs → IsSameFrom (place + 1) xs zs
same-from-next place xs ys zs h k = record {
  count = k.count ∙ h.count;
  from = λ p l. k.behind p (omega (arith, l)) ∙ h.from p (omega (arith, l));
}

-- the place is emptied
pub emptied-next : (place : ℕ) (xs ys : List (Option Reply)) → IsSameFrom place xs ys → IsSameFrom (place + 1) xs (set ys place None)
emptied-next place xs ys h = record {
  count = length-set ys place None ∙ h.count;
  from = λ p l. get_or-set_other ys place p None None (λ e. absurd (omega (arith, l, e))) ∙ h.from p (omega (arith, l));
}

-- the answer to a line depends on the entries in its place
pub answer-same : (f g : ℕ → List (Option Reply)) (workers : ℕ) (line : WindowLine) (place : ℕ) → 1 ≤ workers
    → ((k : ℕ) → k < workers → get_or (g k) place None ≡ get_or (f k) place None) → answer_for g workers line place ≡ answer_for f workers line place
answer-same f g workers (shown.Query q) place some h = h (sum q.client % workers) (omega arith)
answer-same f g workers (shown.Message w) place some h = refl
answer-same f g workers shown.Flush place some h = refl
answer-same f g workers (shown.Bad b) place some h = refl

pub reply-same : (own now : List (Option Reply)) (f g : ℕ → List (Option Reply)) (workers : ℕ) (line : WindowLine) (place : ℕ)
    → 1 ≤ workers → IsSameFrom place own now → ((k : ℕ) → k < workers → IsSameFrom place (f k) (g k))
    → chosen (get_or now place None) (answer_for g workers line place) ≡ reply_for own f workers line place
reply-same own now f g workers line place some h each =
    let answer = answer-same f g workers line place some (λ k l. let s = each k l in s.from place (omega arith)) in
    ap (λ e. chosen e (answer_for g workers line place)) (h.from place (omega arith)) ∙ ap (chosen (get_or own place None)) answer

read-any : (xs : List (Option Reply)) (i : ℕ) (d e : Option Reply) → i < length xs → get_or xs i d ≡ get_or xs i e
read-any [] i d e l = absurd (omega arith)
read-any (x ∷ xs) zero d e l = refl
read-any (x ∷ xs) (suc i) d e l = read-any xs i d e (omega arith)

-- what is taken at this place is the reply to its line
pub taken-is : (own now : List (Option Reply)) (f g : ℕ → List (Option Reply))
    (workers workers_now : ℕ) (line : WindowLine) (place : ℕ) (entry d result : Option Reply) → 1 ≤ workers → place < length now → IsSameFrom place own now
    → ((k : ℕ) → k < workers → IsSameFrom place (f k) (g k)) → workers_now ≡ workers
    → entry ≡ get_or now place d → result ≡ chosen entry (answer_for g workers_now line place) → result ≡ reply_for own f workers line place
taken-is own now f g workers workers_now line place entry d result some l h each same entry_is is =
    is
    ∙ ap (λ e. chosen e (answer_for g workers_now line place)) (entry_is ∙ read-any now place d None l)
    ∙ ap (λ n. chosen (get_or now place None) (answer_for g n line place)) same
    ∙ reply-same own now f g workers line place some h each

none-is-there : (o : Option Reply) → IsSome o → o ≡ None → ⊥
none-is-there None is e = absurd (cc)
none-is-there (Some r) is e = absurd (cc)

-- a reply that is there is not missing
pub not-missing : (o p : Option Reply) → o ≡ p → IsSome p → o ≡ None → ⊥
not-missing o p e is none = none-is-there p is (sym e ∙ none)

pub joined-more : (lines : List WindowLine) (own : List (Option Reply)) (answers : ℕ → List (Option Reply))
    (workers i : ℕ) (line : WindowLine) (rs : List Reply) (r : Reply) → AreJoined lines own answers workers rs → length rs ≡ i
    → slice_get lines i ≡ Some line → Some r ≡ reply_for own answers workers line i → AreJoined lines own answers workers (rs ++ r ∷ [])
joined-more lines own answers workers i line rs r h count at is = record {
  each = λ place x s at_line at_reply.
      ⊎_elim (λ (e : slice_get rs place ≡ Some s). h.each place x s at_line e)
      (λ (e : (place ≡ length rs) × (r ≡ s)).
      let here : place ≡ i = e.0 ∙ count in
      let same : line ≡ x = same_Some line x (sym at ∙ ap (slice_get lines) (sym here) ∙ at_line) in
      ap (λ (t : Reply). Some t) (sym e.1) ∙ is ∙ ap (λ (l : WindowLine). reply_for own answers workers l i) same ∙ ap (reply_for own answers workers x) (sym here))
      (at-end rs r s place at_reply);
}

-- an element of a list that has one
pub some-in : {X : Type 0} (xs : List X) → 1 ≤ length xs → X
some-in [] h = absurd (omega arith)
some-in (x ∷ xs) h = x
