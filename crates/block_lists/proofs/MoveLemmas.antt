-- Elements that move on or back within a block and then through the full blocks behind it.
use Rattle.block_lists.proofs.Words.{◌≡◌, ◌≢◌, ℕ, ◌+◌, ◌-◌, ◌*◌, ◌/◌, ◌<◌, ◌≤◌, List, length, get_or, refl, sym, ◌∙◌, ap, subst, arith, inl, inr, cases_eq, cases_lt, set}
use Rattle.block_lists.proofs.Words.{length-set, AreBlocks, AreSame, IsMovedBack, IsMovedOn, IsShiftedBack, IsShiftedOn, element, followed, moved_on, stored_at}
use Rattle.block_lists.proofs.PlaceLemmas.{begins-there, blocks-turned}
use Rattle.block_lists.proofs.ShiftLemmas.{followed-before, followed-is, followed-other, moved-here, moved-later, moved-other}

-- two moves, one behind the other
pub on-joined : {X : Type 0} (olds : List ℕ) (old : List X) (s : List ℕ) (t : List X) (starts : List ℕ) (stored : List X) (from mid end : ℕ) (item x y : X) → from < mid → mid ≤ end → end ≤ length old → IsMovedOn olds old s t from mid item x → IsMovedOn s t starts stored mid end x y → IsMovedOn olds old starts stored from end item y
on-joined olds old s t starts stored from mid end item x y order to within h g =
    let before = element olds old in
    record {
      blocks = subst (AreBlocks starts) h.same_length g.blocks;
      same_length = g.same_length ∙ h.same_length;
      same_starts = g.same_starts ∙ h.same_starts;
      below = λ k d l. g.below k d (omega (arith, l)) ∙ h.below k d l;
      moved = λ k d l m. elim (cases_lt k mid) [
        | inl low ↦ g.below k d low ∙ h.moved k d l low
        | inr high ↦ g.moved k d high m ∙ elim (cases_eq k mid) [
          | inl e ↦ moved-here (element s t) mid x d k e ∙ h.taken_is d ∙ ap (λ j. moved_on before from item j d) (sym e)
          | inr e ↦ moved-other (element s t) mid x d k e ∙ moved-later before from item _ d k (λ f. omega (arith, f, high)) (h.above (k - 1) d (omega (arith, high, e)) (omega (arith, m)))
        ]
      ];
      above = λ k d l m. g.above k d l (omega (arith, m, h.same_length)) ∙ h.above k d (omega (arith, l)) m;
      taken_is = λ d. g.taken_is d ∙ elim (cases_eq end mid) [
        | inl e ↦ moved-here (element s t) mid x d end e ∙ h.taken_is d ∙ ap (λ j. moved_on before from item j d) (sym e)
        | inr e ↦ moved-other (element s t) mid x d end e ∙ moved-later before from item _ d end (λ f. omega (arith, f)) (h.above (end - 1) d (omega (arith, e)) (omega (arith, e)))
      ];
    }

pub back-joined : {X : Type 0} (olds : List ℕ) (old : List X) (s : List ℕ) (t : List X) (starts : List ℕ) (stored : List X) (from mid end : ℕ) (item x y : X) → from < mid → mid ≤ end → end ≤ length old → IsMovedBack olds old s t mid end item x → IsMovedBack s t starts stored from mid x y → IsMovedBack olds old starts stored from end item y
back-joined olds old s t starts stored from mid end item x y order to within h g =
    let before = element olds old in
    record {
      blocks = subst (AreBlocks starts) h.same_length g.blocks;
      same_length = g.same_length ∙ h.same_length;
      same_starts = g.same_starts ∙ h.same_starts;
      below = λ k d l. g.below k d l ∙ h.below k d (omega (arith, l));
      moved = λ k d l m. elim (cases_lt k mid) [
        | inl low ↦ g.moved k d l low ∙ elim (cases_eq (k + 1) mid) [
          | inl e ↦ followed-is (element s t) mid x d (k + 1) e ∙ h.taken_is d ∙ ap (λ j. followed before end item j d) (sym e)
          | inr e ↦ followed-other (element s t) mid x d (k + 1) e ∙ followed-before before end item _ d (k + 1) (λ f. omega (arith, f, low, e)) (h.below (k + 1) d (omega (arith, low, e)))
        ]
        | inr high ↦ g.above k d high (omega (arith, m, h.same_length)) ∙ h.moved k d high m
      ];
      above = λ k d l m. g.above k d (omega (arith, l)) (omega (arith, m, h.same_length)) ∙ h.above k d l m;
      taken_is = λ d. g.taken_is d ∙ followed-other (element s t) mid x d from (λ e. omega (arith, e)) ∙ followed-before before end item _ d from (λ f. omega (arith, f)) (h.below from d order);
    }

-- a full block in order
module _ {X : Type 0} (olds : List ℕ) (old stored : List X) (block : ℕ) (h : AreBlocks olds (length old)) (full : block < length old / 256) (same : AreSame (set olds block 0) stored olds old) where
  known : block < length olds
  known = omega (arith, h.known)

  pub settled-blocks : AreBlocks (set olds block 0) (length old)
  settled-blocks = blocks-turned olds (length old) block 0 h known (omega arith) (λ l. refl)

  flat : (k : ℕ) → k / 256 ≡ block → stored_at (set olds block 0) k ≡ k
  flat k e = let begin = begins-there olds block 0 (k / 256) known e in omega (arith, begin)

  was : (k : ℕ) (d : X) → k / 256 ≡ block → k < length old → get_or stored k d ≡ element olds old k d
  was k d e l = ap (λ j. get_or stored j d) (sym (flat k e)) ∙ same k d l

  elsewhere : (new : List X) (k : ℕ) (d : X) → k / 256 ≢ block → k < length old → ((j : ℕ) → j < block * 256 → get_or new j d ≡ get_or stored j d) → ((j : ℕ) → block * 256 + 256 ≤ j → get_or new j d ≡ get_or stored j d) → element (set olds block 0) new k d ≡ element olds old k d
  elsewhere new k d n l low high =
      let at = stored_at (set olds block 0) k in
      elim (cases_lt at (block * 256)) [
        | inl below ↦ low at below ∙ same k d l
        | inr above ↦ high at (omega (arith, above, n)) ∙ same k d l
      ]

  -- in which an element is put
  pub settled-on : (new : List X) (place : ℕ) (item taken : X) → place / 256 ≡ block → length stored ≡ length old → IsShiftedOn stored new place (block * 256 + 256) item taken → IsMovedOn olds old (set olds block 0) new place (block * 256 + 256) item taken
  settled-on new place item taken own long shift =
      let before = element olds old in
      let end = block * 256 + 256 in
      let apart = λ (k : ℕ) (d : X) (n : k / 256 ≢ block) (l : k < length old). elsewhere new k d n l (λ j m. shift.below j d (omega (arith, m, own))) (λ j m. shift.above j d m) in
      record {
        blocks = settled-blocks;
        same_length = shift.same_length ∙ long;
        same_starts = length-set olds block 0;
        below = λ k d l. elim (cases_eq (k / 256) block) [
          | inl e ↦ ap (λ j. get_or new j d) (flat k e) ∙ shift.below k d l ∙ was k d e (omega (arith, e))
          | inr n ↦ apart k d n (omega (arith, l, own))
        ];
        moved = λ k d l m.
            let e : k / 256 ≡ block = omega (arith, l, m, own) in
            ap (λ j. get_or new j d) (flat k e) ∙ shift.moved k d l m ∙ elim (cases_eq k place) [
              | inl f ↦ moved-here (get_or stored) place item d k f ∙ sym (moved-here before place item d k f)
              | inr f ↦ moved-other (get_or stored) place item d k f ∙ moved-later before place item _ d k f (was (k - 1) d (omega (arith, e, l, f, own)) (omega (arith, e)))
            ];
        above = λ k d l m. apart k d (λ e. omega (arith, e, l)) m;
        taken_is = λ d.
            let differ : end ≢ place = λ f. omega (arith, f, own) in
            shift.taken_is d ∙ moved-other (get_or stored) place item d end differ ∙ moved-later before place item _ d end differ (was (end - 1) d (omega arith) (omega arith));
      }

  -- from which an element is taken
  pub settled-back : (new : List X) (place : ℕ) (item taken : X) → place / 256 ≡ block → length stored ≡ length old → IsShiftedBack stored new place (block * 256 + 256) item taken → IsMovedBack olds old (set olds block 0) new place (block * 256 + 256) item taken
  settled-back new place item taken own long shift =
      let before = element olds old in
      let end = block * 256 + 256 in
      let apart = λ (k : ℕ) (d : X) (n : k / 256 ≢ block) (l : k < length old). elsewhere new k d n l (λ j m. shift.below j d (omega (arith, m, own))) (λ j m. shift.above j d m) in
      record {
        blocks = settled-blocks;
        same_length = shift.same_length ∙ long;
        same_starts = length-set olds block 0;
        below = λ k d l. elim (cases_eq (k / 256) block) [
          | inl e ↦ ap (λ j. get_or new j d) (flat k e) ∙ shift.below k d l ∙ was k d e (omega (arith, e))
          | inr n ↦ apart k d n (omega (arith, l, own))
        ];
        moved = λ k d l m.
            let e : k / 256 ≡ block = omega (arith, l, m, own) in
            ap (λ j. get_or new j d) (flat k e) ∙ shift.moved k d l m ∙ elim (cases_eq (k + 1) end) [
              | inl f ↦ followed-is (get_or stored) end item d (k + 1) f ∙ sym (followed-is before end item d (k + 1) f)
              | inr f ↦ followed-other (get_or stored) end item d (k + 1) f ∙ followed-before before end item _ d (k + 1) f (was (k + 1) d (omega (arith, e, m, f)) (omega (arith, e, m, f)))
            ];
        above = λ k d l m. apart k d (λ e. omega (arith, e, l)) m;
        taken_is = λ d.
            let differ : place ≢ end = λ f. omega (arith, f, own) in
            shift.taken_is d ∙ followed-other (get_or stored) end item d place differ ∙ followed-before before end item _ d place differ (was place d own (omega (arith, own)));
      }
