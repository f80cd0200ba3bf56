-- The keys that a test leaves of keys that ascend.
use Rattle.std.proofs.Common.{◌≡◌, ◌∷◌, [], true, false, List, Bool, Bor, suc, refl, ap, ◌∙◌, arith, length, filter}
use Rattle.std.specs.Fn.{CalledAt, ComputesKey}
use Rattle.std.specs.List.{All, items_where_true}
use Rattle.std.specs.List.Retain.{IsFiltered, ReturnsInTurn}
use Rattle.std.proofs.lemmas.List.Elements.{All-cons, All-nil}
use Rattle.std.proofs.lemmas.List.Kept.{AllPairs-cons}
use denote.Param.Members.{Mut}
use Rattle.mt_base.specs.declared.keys.Key.{Key}
use Rattle.rank_order.specs.Marked.{Ascends}
use Rattle.rank_order.proofs.InsertLemmas.{RisesTo}

kept-all : (P : Key → Type 0) (bs : List Bool) (ks : List Key) → All P ks → All P (items_where_true bs ks)
kept-all P [] ks h = All-nil P
kept-all P (b ∷ bs) [] h = All-nil P
kept-all P (true ∷ bs) (k ∷ ks) h = All-cons P k (items_where_true bs ks) (h 0 k (omega arith)) (kept-all P bs ks (λ i d l. h (suc i) d (omega arith)))
kept-all P (false ∷ bs) (k ∷ ks) h = kept-all P bs ks (λ i d l. h (suc i) d (omega arith))

pub kept-ascends : (bs : List Bool) (ks : List Key) → Ascends ks → Ascends (items_where_true bs ks)
kept-ascends [] ks up = λ i j d l m. absurd (omega arith)
kept-ascends (b ∷ bs) [] up = λ i j d l m. absurd (omega arith)
kept-ascends (true ∷ bs) (k ∷ ks) up =
    AllPairs-cons RisesTo k (items_where_true bs ks) (kept-all (RisesTo k) bs ks (λ j d l. up 0 (suc j) d (omega arith) (omega arith))) (kept-ascends bs ks (λ i j d l m. up (suc i) (suc j) d (omega arith) (omega arith)))
kept-ascends (false ∷ bs) (k ∷ ks) up = kept-ascends bs ks (λ i j d l m. up (suc i) (suc j) d (omega arith) (omega arith))

module _ {F : Type 0} (g : Mut F (Bor Key × Unit {0}) Bool) (p : Key → Bool) where
  first : (b : Bool) (bs : List Bool) (k : Key) (ks : List Key) → b ≡ p k → items_where_true bs ks ≡ filter p ks → items_where_true (b ∷ bs) (k ∷ ks) ≡ filter p (k ∷ ks)
  first true bs k ks is rest = rw (← is, rest) refl
  first false bs k ks is rest = rw (← is, rest) refl

  told : (bs : List Bool) (ks : List Key) (f q : F) → length bs ≡ length ks → ComputesKey g p f → ReturnsInTurn (CalledAt g) f bs ks q → items_where_true bs ks ≡ filter p ks
  told [] [] f q l by t = refl
  told [] (k ∷ ks) f q l by t = absurd (omega arith)
  told (b ∷ bs) [] f q l by t = absurd t
  told (b ∷ bs) (k ∷ ks) f q l by t =
      let call = t.1 in
      let rest = told bs ks t.0 q (omega arith) (record { at = λ xs. (by.at ((call.shown, tt) ∷ xs) b t.0 call.called).1 }) t.2 in
      first b bs k ks ((by.at ((call.shown, tt) ∷ []) b t.0 call.called).0 ∙ ap p call.shows) rest

  pub retained : (f : F) (ks left : List Key) → ComputesKey g p f → IsFiltered (CalledAt g) f ks left → left ≡ filter p ks
  retained f ks left by h = h.4 ∙ told h.0 ks f h.1 h.2 by h.3
