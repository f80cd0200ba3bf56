-- What edges ask for is raised one after the other.
use Rattle.propagate.proofs.Words.{◌≡◌, ◌≤◌, ◌||◌, ◌++◌, Bool, true, false, List, [], ◌∷◌, Some, refl, sym, ◌∙◌, ap, subst, arith, inl, inr, ◌⊎◌, ℕ, max, Option, None, append_assoc, append-nil, All, All-contains, All-append, All-cons, All-nil, All-permutation, Contains-append_left, Contains-append_right, Contains-permutation}
use Rattle.propagate.proofs.Words.{Key, Edge, cases_Bool, is_same, same-is, same-itself, list_any-IsPermutation, or_parts, IsPermutation, Marked, is_marked}
use Rattle.std.proofs.lemmas.List.Folds.{list_any-append}
use Rattle.propagate.specs.Asked.{AreRaised, IsRaised, IsRaisedFrom, StartsAt, ask, asked_by, entry_of, later_asked, leads, nothing}
use Rattle.propagate.specs.declared.asked.Asked.{Asked}
use Rattle.propagate.specs.declared.asked.AskedTable.{AskedTable}
use Rattle.propagate.proofs.Asks.{raised-none}
use Rattle.propagate.proofs.Idle.{or-right}

-- no edge raises nothing
pub no-edge : (was is : ℕ) (marks : Marked) (t : AskedTable) → AreRaised was is [] marks t t
no-edge was is marks t = λ k a h. (a, inl h, raised-none was is [] k a refl)

leads-left : (gs hs : List Edge) (k : Key) → leads gs k ≡ true → leads (gs ++ hs) k ≡ true
leads-left gs hs k h = list_any-append (λ (e : Edge). is_same e.to k) gs hs ∙ rw h refl

leads-right : (gs hs : List Edge) (k : Key) → leads hs k ≡ true → leads (gs ++ hs) k ≡ true
leads-right gs hs k h = list_any-append (λ (e : Edge). is_same e.to k) gs hs ∙ or-right (leads gs k) (leads hs k) h

-- one edge raises what is asked of the event to which it leads
one-raises : (was is : ℕ) (e : Edge) (c a : Asked) → (c.before ≤ a.before) → (c.after ≤ a.after) → ask e was ≤ a.before → ask e is ≤ a.after → (a.after ≡ c.after) ⊎ (ask e is ≡ a.after) → IsRaised was is (e ∷ []) e.to c a
one-raises was is e c a l k p q top =
    record {
      before_kept = l;
      after_kept = k;
      before_asked = All-cons (λ (d : Edge). is_same d.to e.to ≡ true → ask d was ≤ a.before) e [] (λ _. p) (All-nil (λ (d : Edge). is_same d.to e.to ≡ true → ask d was ≤ a.before));
      after_asked = All-cons (λ (d : Edge). is_same d.to e.to ≡ true → ask d is ≤ a.after) e [] (λ _. q) (All-nil (λ (d : Edge). is_same d.to e.to ≡ true → ask d is ≤ a.after));
      attained = elim top [ inl same ↦ inl same | inr asks ↦ inr (e, (0, omega arith, refl), same-itself e.to, asks) ];
    }

max-is : (a b : ℕ) → (max a b ≡ a) ⊎ (b ≡ max a b)
max-is a b = grind arith

from-first : (was is : ℕ) (e : Edge) (marks : Marked) (old : AskedTable) (fresh : Bool) → (fresh ≡ true → is_marked marks e.to ≡ false) → (o : Option Asked) → entry_of old e.to ≡ o → (a : Asked) → IsRaisedFrom o fresh (asked_by was is e) a → (c : Asked) × StartsAt (e ∷ []) marks old e.to c × IsRaised was is (e ∷ []) e.to c a
from-first was is e marks old fresh free (Some c) known a h =
    (c, inl known, rw h (one-raises was is e c (later_asked c (asked_by was is e)) (omega arith) (omega arith) (omega arith) (omega arith) (max-is c.after (ask e is))))
from-first was is e marks old fresh free None known a h =
    (nothing, inr (refl, free h.0, rw (same-itself e.to) refl), rw h.1 (one-raises was is e nothing (asked_by was is e) (omega arith) (omega arith) (omega arith) (omega arith) (inr refl)))

pub one-edge : (was is : ℕ) (e : Edge) (marks : Marked) (old new : AskedTable) (fresh : Bool) → (fresh ≡ true → is_marked marks e.to ≡ false) → ((a : Asked) → entry_of new e.to ≡ Some a → IsRaisedFrom (entry_of old e.to) fresh (asked_by was is e) a) → ((q : Key) → is_same e.to q ≡ false → entry_of new q ≡ entry_of old q) → AreRaised was is (e ∷ []) marks old new
one-edge was is e marks old new fresh free own others = λ k a h.
    elim (cases_Bool (is_same e.to k)) [
      | inl same ↦
          let at = same-is e.to k same in
          subst (λ q. (c : Asked) × StartsAt (e ∷ []) marks old q c × IsRaised was is (e ∷ []) q c a) at
          (from-first was is e marks old fresh free (entry_of old e.to) refl a (own a (ap (entry_of new) at ∙ h)))
      | inr apart ↦ (a, inl (sym (others k apart) ∙ h), raised-none was is (e ∷ []) k a (rw apart refl))
    ]

-- some edges and then others
module _ (was is : ℕ) (gs hs : List Edge) (first more : Marked) (old mid new : AskedTable) (one : AreRaised was is gs first old mid) (marked : (q : Key) → is_marked more q ≡ (is_marked first q || leads gs q)) (two : AreRaised was is hs more mid new) where
  joined : (k : Key) (c b a : Asked) → IsRaised was is gs k c b → IsRaised was is hs k b a → IsRaised was is (gs ++ hs) k c a
  joined k c b a r s =
      let l = r.before_kept in
      let m = r.after_kept in
      let n = s.before_kept in
      let o = s.after_kept in
      record {
        before_kept = omega arith;
        after_kept = omega arith;
        before_asked = All-append (λ (e : Edge). is_same e.to k ≡ true → ask e was ≤ a.before) gs hs (λ i d u to. let p = r.before_asked i d u to in omega arith) s.before_asked;
        after_asked = All-append (λ (e : Edge). is_same e.to k ≡ true → ask e is ≤ a.after) gs hs (λ i d u to. let p = r.after_asked i d u to in omega arith) s.after_asked;
        attained = elim s.attained [
          | inl same ↦
              elim r.attained [
                | inl start ↦ inl (same ∙ start)
                | inr at ↦ inr (at.0, Contains-append_left gs hs at.0 at.1, at.2, at.3 ∙ sym same)
              ]
          | inr at ↦ inr (at.0, Contains-append_right gs hs at.0 at.1, at.2, at.3)
        ];
      }

  pub both-raise : AreRaised was is (gs ++ hs) first old new
  both-raise = λ k a h.
      let r = two k a h in
      elim r.1 [
        | inl known ↦
            let s = one k r.0 known in
            let starts : StartsAt (gs ++ hs) first old k s.0 = elim s.1 [ inl known ↦ inl known | inr free ↦ inr (free.0, free.1, leads-left gs hs k free.2) ] in
            (s.0, starts, joined k s.0 r.0 a s.2 r.2)
        | inr free ↦
            let parts = or_parts (is_marked first k) (leads gs k) (sym (marked k) ∙ free.1) in
            (r.0, inr (free.0, parts.0, leads-right gs hs k free.2), joined k r.0 r.0 a (raised-none was is gs k r.0 parts.1) r.2)
      ]

-- in another order
pub raised-moves : (was is : ℕ) (gs hs : List Edge) (marks : Marked) (old new : AskedTable) → IsPermutation gs hs → AreRaised was is gs marks old new → AreRaised was is hs marks old new
raised-moves was is gs hs marks old new moved h = λ k a known.
    let r = h k a known in
    let s = r.2 in
    let starts : StartsAt hs marks old k r.0 = elim r.1 [ inl known ↦ inl known | inr free ↦ inr (free.0, free.1, sym (list_any-IsPermutation (λ (e : Edge). is_same e.to k) gs hs moved) ∙ free.2) ] in
    let up : IsRaised was is hs k r.0 a = record {
      before_kept = s.before_kept;
      after_kept = s.after_kept;
      before_asked = All-permutation (λ (e : Edge). is_same e.to k ≡ true → ask e was ≤ a.before) gs hs moved s.before_asked;
      after_asked = All-permutation (λ (e : Edge). is_same e.to k ≡ true → ask e is ≤ a.after) gs hs moved s.after_asked;
      attained = elim s.attained [ inl same ↦ inl same | inr at ↦ inr (at.0, Contains-permutation gs hs at.0 moved at.1, at.2, at.3) ];
    }
    in
    (r.0, starts, up)

-- part of a walk over edges: those that are done are marked, and have raised what is asked of the events to which they lead
pub record IsRaising (was is : ℕ) (gs : List Edge) (first : Marked) (old : AskedTable) (left : List Edge) (marks : Marked) (table : AskedTable) : Type 0 where
  pub done : List Edge
  pub whole : gs ≡ done ++ left
  pub marked : (q : Key) → is_marked marks q ≡ (is_marked first q || leads done q)
  pub raised : AreRaised was is done first old table

or-none : (b : Bool) → b ≡ (b || false)
or-none true = refl
or-none false = refl

pub raising-first : (was is : ℕ) (gs : List Edge) (first : Marked) (old : AskedTable) → IsRaising was is gs first old gs first old
raising-first was is gs first old = record { done = []; whole = refl; marked = λ q. or-none (is_marked first q); raised = no-edge was is first old }

module _ {was is : ℕ} {gs : List Edge} {first : Marked} {old : AskedTable} {left : List Edge} {marks : Marked} {table : AskedTable} (part : IsRaising was is gs first old left marks table) where
  module _ {e : Edge} {rest : List Edge} (next : left ≡ e ∷ rest) where
    whole : gs ≡ part.done ++ e ∷ rest
    whole = part.whole ∙ ap (λ es. part.done ++ es) next

    -- what holds of all holds of the next
    pub raising-next : (P : Edge → Type 0) → All P gs → P e
    raising-next P all = All-contains P gs e all (rw whole (Contains-append_right part.done (e ∷ rest) e (0, omega arith, refl)))

    pub raising-more : (more : Marked) → ((q : Key) → is_marked more q ≡ (is_same e.to q || is_marked marks q)) → (new : AskedTable) → AreRaised was is (e ∷ []) marks table new → IsRaising was is gs first old rest more new
    raising-more more now new one =
        record {
          done = part.done ++ e ∷ [];
          whole = whole ∙ sym (append_assoc part.done (e ∷ []) rest);
          marked = λ q. now q ∙ rw (part.marked q, list_any-append (λ (e : Edge). is_same e.to q) part.done (e ∷ [])) (grind arith);
          raised = both-raise was is part.done (e ∷ []) first marks old table new part.raised part.marked one;
        }

  -- in the end
  pub raising-last : left ≡ [] → AreRaised was is gs first old table
  raising-last none = rw (part.whole, none, append-nil part.done) part.raised
