-- What viewers do as steps of the machine, and what each event leaves as it was.
use Rattle.std.proofs.Common.{◌≡◌, ◌⊎◌, inl, inr, ℕ, ◌≤◌, ◌<◌, true, List, length, get_or, set, max, refl, ap, sym, subst, ◌∙◌, arith, length-set, length-append, [], ◌∷◌, ◌≢◌, get_or-set_other}
use mathlib.Core.List.{IsPrefix}
use Rattle.std.proofs.lemmas.Bool.Decides.{nat_tests}
use Rattle.std.proofs.lemmas.List.{get_or_append_left, get_or_push, get_or-replicate, length-replicate}
use Rattle.std.proofs.lemmas.Grind.{get_or-set_at}
use Rattle.snapshot_board.specs.Boards.{BoardState}
use Rattle.snapshot_board.specs.Knowledge.{Knowledge, IsLook, LearnsNote}
use Rattle.snapshot_board.specs.Machines.{at_opening, counts_of, newcomer_counts, is_step, after_event}
use Rattle.snapshot_board.specs.Meetings.{newcomer}
use Rattle.snapshot_board.specs.Viewers.{HasViewer, HasNote, IsByOthers}
use Rattle.snapshot_board.specs.declared.event.Event.{Event}
use Rattle.snapshot_board.specs.declared.event.Event.TheVariants.{Post, Look, Tell, Learn}
use Rattle.snapshot_board.specs.declared.event.ViewerCounts.{ViewerCounts}
use Rattle.snapshot_board.proofs.PrefixLemmas.{prefix_length, prefix_more, prefix_self}

look-is-step : {M : Type 0} (s : BoardState M) (v count : ℕ) → v < length s.viewers → (counts_of s v).seen ≤ count → (counts_of s v).least ≤ count → count ≤ length s.posted
    → is_step s (Look v count) ≡ true
look-is-step s v count lt seen least posted = grind (arith, nat_tests)

learn-is-step : {M : Type 0} (s : BoardState M) (v note : ℕ) → v < length s.viewers → note < length s.notes → is_step s (Learn v note) ≡ true
learn-is-step s v note lt there = grind (arith, nat_tests)

set-counts : (viewers : List ViewerCounts) (v : ℕ) (c : ViewerCounts) → v < length viewers → get_or (set viewers v c) v newcomer_counts ≡ c
set-counts viewers v c lt = get_or-set_at viewers v v c newcomer_counts refl lt

longer : (a b n : ℕ) → a ≤ n → b ≤ n → (n ≡ a) ⊎ (n ≡ b) → max a b ≡ n
longer a b n p q one = omega arith

one-length : {M : Type 0} (told : List M) (old new : Knowledge M) → LearnsNote told old new → (length new.learnt ≡ length old.learnt) ⊎ (length new.learnt ≡ length told)
one-length told old new learnt = elim learnt.one [ inl e ↦ inl (ap length e) | inr e ↦ inr (ap length e) ]

one-posted : {M : Type 0} (told : List M) (old new : Knowledge M) (posted : List M) → LearnsNote told old new → IsPrefix old.learnt posted → IsPrefix told posted → IsPrefix new.learnt posted
one-posted {M} told old new posted learnt p q = elim learnt.one [ inl e ↦ subst (λ (l : List M). IsPrefix l posted) (sym e) p | inr e ↦ subst (λ (l : List M). IsPrefix l posted) (sym e) q ]

pub looks : {M : Type 0} (s : BoardState M) (v : ℕ) (old new : Knowledge M) → HasViewer s v old → IsLook old new → IsPrefix new.seen s.posted
    → (is_step s (Look v (length new.seen)) ≡ true) × HasViewer (after_event s (Look v (length new.seen))) v new
looks {M} s v old new has look within =
    let n = length new.seen in
    let a : length old.seen ≤ n = prefix_length old.seen new.seen look.later in
    let b : length old.learnt ≤ n = prefix_length old.learnt new.seen look.learnt in
    let c : n ≤ length s.posted = prefix_length new.seen s.posted within in
    let counts : ViewerCounts = record { seen = n; least = (counts_of s v).least } in
    let now = set-counts s.viewers v counts has.there in (
      look-is-step s v n has.there (omega arith) (omega arith) c,
      record {
        there = omega (arith, length-set s.viewers v counts, has.there);
        seen = ap (λ (k : ViewerCounts). k.seen) now;
        least = ap (λ (k : ViewerCounts). k.least) now ∙ (has.least ∙ sym (ap length look.kept));
        seen_posted = within;
        learnt_posted = subst (λ (l : List M). IsPrefix l s.posted) (sym look.kept) has.learnt_posted;
      },
    )

pub learns : {M : Type 0} (s : BoardState M) (v note : ℕ) (told : List M) (old new : Knowledge M) → HasViewer s v old → HasNote s note told → LearnsNote told old new
    → (is_step s (Learn v note) ≡ true) × HasViewer (after_event s (Learn v note)) v new
learns {M} s v note told old new has noted learnt =
    let a : length old.learnt ≤ length new.learnt = prefix_length old.learnt new.learnt learnt.before in
    let b : length told ≤ length new.learnt = prefix_length told new.learnt learnt.note in
    let both : max (length old.learnt) (length told) ≡ length new.learnt = longer (length old.learnt) (length told) (length new.learnt) a b (one-length told old new learnt) in
    let counts : ViewerCounts = record { seen = (counts_of s v).seen; least = max (counts_of s v).least (get_or s.notes note 0) } in
    let now = set-counts s.viewers v counts has.there in (
      learn-is-step s v note has.there noted.there,
      record {
        there = omega (arith, length-set s.viewers v counts, has.there);
        seen = ap (λ (k : ViewerCounts). k.seen) now ∙ (has.seen ∙ sym (ap length learnt.kept));
        least = ap (λ (k : ViewerCounts). k.least) now ∙ rw (has.least, noted.count) both;
        seen_posted = subst (λ (l : List M). IsPrefix l s.posted) (sym learnt.kept) has.seen_posted;
        learnt_posted = one-posted told old new s.posted learnt has.learnt_posted noted.posted;
      },
    )

pub opens : {M : Type 0} (viewers v : ℕ) → v < viewers → HasViewer {M = M} (at_opening viewers) v newcomer
opens viewers v lt =
    let is = get_or-replicate viewers v newcomer_counts newcomer_counts lt in
    record {
      there = omega (arith, length-replicate viewers newcomer_counts, lt);
      seen = ap (λ (k : ViewerCounts). k.seen) is;
      least = ap (λ (k : ViewerCounts). k.least) is;
      seen_posted = prefix_self [];
      learnt_posted = prefix_self [];
    }

pub tells : {M : Type 0} (s : BoardState M) → HasNote (after_event s Tell) (length s.notes) s.posted
tells s =
    let n = length s.posted in
    record {
      there = omega (arith, length-append s.notes (n ∷ []));
      count = get_or_push s.notes n 0 (length s.notes) refl;
      posted = prefix_self s.posted;
    }

-- the counts of one viewer stay where another's are set
other-counts : (viewers : List ViewerCounts) (w v : ℕ) (x : ViewerCounts) → v ≢ w → get_or (set viewers w x) v newcomer_counts ≡ get_or viewers v newcomer_counts
other-counts viewers w v x ne = get_or-set_other viewers w v x newcomer_counts ne

set-other : {M : Type 0} (posted : List M) (notes : List ℕ) (viewers : List ViewerCounts) (w v : ℕ) (x : ViewerCounts) (k : Knowledge M) → v ≢ w
    → HasViewer (record { posted = posted; notes = notes; viewers = viewers }) v k → HasViewer (record { posted = posted; notes = notes; viewers = set viewers w x }) v k
set-other posted notes viewers w v x k ne has =
    let same = other-counts viewers w v x ne in
    record {
      there = omega (arith, length-set viewers w x, has.there);
      seen = ap (λ (c : ViewerCounts). c.seen) same ∙ has.seen;
      least = ap (λ (c : ViewerCounts). c.least) same ∙ has.least;
      seen_posted = has.seen_posted;
      learnt_posted = has.learnt_posted;
    }

pub others-stay : {M : Type 0} (s : BoardState M) (e : Event M) (v : ℕ) (k : Knowledge M) → HasViewer s v k → IsByOthers v e → HasViewer (after_event s e) v k
others-stay s (Post m) v k has others = record {
  there = has.there;
  seen = has.seen;
  least = has.least;
  seen_posted = prefix_more k.seen s.posted (m ∷ []) has.seen_posted;
  learnt_posted = prefix_more k.learnt s.posted (m ∷ []) has.learnt_posted;
}
others-stay s (Look w count) v k has others = set-other s.posted s.notes s.viewers w v _ k others has
others-stay s Tell v k has others = record {
  there = has.there;
  seen = has.seen;
  least = has.least;
  seen_posted = has.seen_posted;
  learnt_posted = has.learnt_posted;
}
others-stay s (Learn w note) v k has others = set-other s.posted s.notes s.viewers w v _ k others has

pub notes-stay : {M : Type 0} (s : BoardState M) (e : Event M) (note : ℕ) (told : List M) → HasNote s note told → HasNote (after_event s e) note told
notes-stay s (Post m) note told has = record { there = has.there; count = has.count; posted = prefix_more told s.posted (m ∷ []) has.posted }
notes-stay s (Look w count) note told has = record { there = has.there; count = has.count; posted = has.posted }
notes-stay s Tell note told has = record {
  there = omega (arith, length-append s.notes (length s.posted ∷ []), has.there);
  count = get_or_append_left s.notes (length s.posted ∷ []) 0 note has.there ∙ has.count;
  posted = has.posted;
}
notes-stay s (Learn w n) note told has = record { there = has.there; count = has.count; posted = has.posted }
