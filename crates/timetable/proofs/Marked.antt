-- Live events are marked one after the other.
use Rattle.timetable.proofs.Words.{◌≡◌, ◌&&◌, ◌||◌, All, Edge, and_parts, ◌<◌, true, false, Bool, List, ◌∷◌, length, get_or, refl, sym, ◌∙◌, ap, subst, arith, inl, inr}
use Rattle.timetable.proofs.Words.{All-contains, Contains, list_any, list_any_at, Key, Event, is_same, same-is, same-itself, live_keys}
use Rattle.std.proofs.lemmas.Bool.{or_cases}
use Rattle.state_laws.proofs.Values.{any-there}
use Rattle.rank_order.proofs.RoomLemmas.{room-left}
use Rattle.rank_order.specs.Marked.{Ascends, Marked, is_marked}
use Rattle.timetable.specs.Marking.{AreMarksOf}

-- where a live event is not marked there is room for its mark
pub room-for-one : (es : List Event) (marks : Marked) (k : Key) → Ascends marks.keys → AreMarksOf es marks → Contains (live_keys es) k → is_marked marks k ≡ false → length marks.keys < marks.room
room-for-one es marks k ascends fit live none = omega (arith, fit.room, room-left marks.keys (live_keys es) k ascends fit.live live none)

-- with one live event more, the marks are of live events
pub fit-more : (es : List Event) (old new : Marked) (k : Key) → ((q : Key) → is_marked new q ≡ (is_same k q || is_marked old q)) → new.room ≡ old.room → AreMarksOf es old → Contains (live_keys es) k → AreMarksOf es new
fit-more es old new k marked room fit live =
    let P = Contains (live_keys es) in
    record {
      live = λ i d l.
          let q = get_or new.keys i d in
          let is = list_any_at (λ p. is_same p q) new.keys i d l (same-itself q) in
          elim (or_cases (is_same k q) (is_marked old q) (sym (marked q) ∙ is)) [
            | inl own ↦ subst P (same-is k q own) live
            | inr was ↦
                let r = any-there (λ p. is_same p q) old.keys was in
                subst P (same-is r.0 q r.2) (All-contains P old.keys r.0 fit.live r.1)
          ];
      room = rw room fit.room;
    }

-- where the ends of edges to live events are marked too, the marks are of live events
pub fit-with : (es : List Event) (old new : Marked) (t : Edge → Bool) (gs : List Edge) → ((q : Key) → is_marked new q ≡ (is_marked old q || list_any (λ e. is_same e.to q && t e) gs)) → new.room ≡ old.room → AreMarksOf es old → All (λ e. Contains (live_keys es) e.to) gs → AreMarksOf es new
fit-with es old new t gs marked room fit live =
    let P = Contains (live_keys es) in
    record {
      live = λ i d l.
          let q = get_or new.keys i d in
          let is = list_any_at (λ p. is_same p q) new.keys i d l (same-itself q) in
          elim (or_cases (is_marked old q) (list_any (λ e. is_same e.to q && t e) gs) (sym (marked q) ∙ is)) [
            | inl was ↦
                let r = any-there (λ p. is_same p q) old.keys was in
                subst P (same-is r.0 q r.2) (All-contains P old.keys r.0 fit.live r.1)
            | inr own ↦
                let r = any-there (λ (e : Edge). is_same e.to q && t e) gs own in
                subst P (same-is r.0.to q (and_parts (is_same r.0.to q) (t r.0) r.2).0) (All-contains (λ (e : Edge). P e.to) gs r.0 live r.1)
          ];
      room = rw room fit.room;
    }

-- part of a walk over elements that mark keys: with what those that are left mark, all is marked that all of them do
pub record IsMarking {X : Type 0} (es : List Event) (p : Key → X → Bool) (all : List X) (first : Marked) (left : List X) (marks : Marked) : Type 0 where
  pub fit : AreMarksOf es marks
  pub room : marks.room ≡ first.room
  pub marked : (q : Key) → Contains (live_keys es) q → (is_marked marks q || list_any (p q) left) ≡ (is_marked first q || list_any (p q) all)

pub marking-first : {X : Type 0} (es : List Event) (p : Key → X → Bool) (all left : List X) (first : Marked) → AreMarksOf es first → ((q : Key) → list_any (p q) left ≡ list_any (p q) all) → IsMarking es p all first left first
marking-first es p all left first fit same = record { fit = fit; room = refl; marked = λ q live. ap (λ b. is_marked first q || b) (same q) }

pub or-turn : (a b c : Bool) → ((a || b) || c) ≡ (a || (b || c))
or-turn true b c = refl
or-turn false b c = refl

module _ {X : Type 0} {es : List Event} {p : Key → X → Bool} {all : List X} {first : Marked} {left : List X} {marks : Marked} (part : IsMarking es p all first left marks) where
  pub marking-more : {x : X} {rest : List X} → left ≡ x ∷ rest → (more : Marked) → AreMarksOf es more → more.room ≡ marks.room → ((q : Key) → Contains (live_keys es) q → is_marked more q ≡ (is_marked marks q || p q x)) → IsMarking es p all first rest more
  marking-more {x} {rest} next more fit same now =
      record {
        fit = fit;
        room = same ∙ part.room;
        marked = λ q live. rw (now q live) (or-turn (is_marked marks q) (p q x) (list_any (p q) rest) ∙ (let e = rw next at (part.marked q live) in e));
      }

  pub marking-skip : {x : X} {rest : List X} → left ≡ x ∷ rest → ((q : Key) → p q x ≡ false) → IsMarking es p all first rest marks
  marking-skip {x} {rest} next none = record { fit = part.fit; room = part.room; marked = λ q live. let e = rw (next, none q) at (part.marked q live) in e }
