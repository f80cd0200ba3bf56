-- The events to which edges lead are marked one after the other.
use Rattle.propagate.proofs.Words.{◌≡◌, ◌<◌, ◌≤◌, ◌||◌, ◌&&◌, Bool, true, false, List, [], ◌∷◌, filter, length, get_or, refl, sym, ◌∙◌, subst, arith, inl, inr, All, All-contains, All-head, All-tail, All-permutation, Contains}
use Rattle.propagate.proofs.Words.{Contains-append_left, Contains-append_right, ◌++◌, ap, list_any, list_any_at, list_any-IsPermutation, or_cases, cases_Bool, IsPermutation, IsPermutation-sym, Key, Edge, is_same, same-is, same-itself, Ascends, Marked, is_marked}
use Rattle.std.proofs.lemmas.List.Elements.{Contains-get_or}
use Rattle.std.proofs.lemmas.List.Folds.{list_any-append}
use Rattle.propagate.proofs.Named.{find-any}
use Rattle.rank_order.proofs.RoomLemmas.{room-left}
use Rattle.propagate.specs.Asked.{leads}

-- what holds of each key that is marked holds of all of them, and the other way round
pub each-marked : (P : Key → Type 0) (marks : Marked) → ((q : Key) → is_marked marks q ≡ true → P q) → All P marks.keys
each-marked P marks h = λ i d l. let q = get_or marks.keys i d in h q (list_any_at (λ a. is_same a q) marks.keys i d l (same-itself q))

pub of-marked : (P : Key → Type 0) (marks : Marked) → All P marks.keys → (q : Key) → is_marked marks q ≡ true → P q
of-marked P marks all q h =
    let r = find-any (λ a. is_same a q) marks.keys h in
    subst P (same-is r.one q r.passes) (All-contains P marks.keys r.one all r.there)

-- one that passes does
pub leads-filter : (may : Edge → Bool) (gs : List Edge) (q : Key) → leads (filter may gs) q ≡ list_any (λ (e : Edge). is_same e.to q && may e) gs
leads-filter may [] q = refl
leads-filter may (e ∷ gs) q = let rest = leads-filter may gs q in elim (cases_Bool (may e)) [ inl passes ↦ rw (passes, rest) (grind arith) | inr fails ↦ rw (fails, rest) (grind arith) ]

-- what is marked and what the edges that are left lead to is what is to be marked, and all of it is live
pub record IsMarking (live : List Key) (gs : List Edge) (first : Marked) (left : List Edge) (marks : Marked) : Type 0 where
  pub room : marks.room ≡ first.room
  pub ends : All (λ (e : Edge). Contains live e.to) left
  pub known : (q : Key) → is_marked marks q ≡ true → Contains live q
  pub marked : (q : Key) → (is_marked marks q || leads left q) ≡ (is_marked first q || leads gs q)

pub marking-first : (live : List Key) (gs left : List Edge) (first : Marked) → IsPermutation left gs → All (λ (e : Edge). Contains live e.to) gs → All (Contains live) first.keys → IsMarking live gs first left first
marking-first live gs left first moved ends known =
    record {
      room = refl;
      ends = All-permutation (λ (e : Edge). Contains live e.to) gs left (IsPermutation-sym left gs moved) ends;
      known = of-marked (Contains live) first known;
      marked = λ q. rw (list_any-IsPermutation (λ (e : Edge). is_same e.to q) left gs moved) refl;
    }

module _ {live : List Key} {gs : List Edge} {first : Marked} {left : List Edge} {marks : Marked} (part : IsMarking live gs first left marks) where
  module _ {e : Edge} {rest : List Edge} (next : left ≡ e ∷ rest) where
    end : Contains live e.to
    end = All-head (λ (e : Edge). Contains live e.to) e rest (rw next at part.ends)

    -- there is room for the event to which an edge leads
    pub marking-room : length live ≤ first.room → Ascends marks.keys → is_marked marks e.to ≡ false → length marks.keys < marks.room
    marking-room room up none = omega (arith, part.room, room-left marks.keys live e.to up (each-marked (Contains live) marks part.known) end none)

    pub marking-more : (more : Marked) → more.room ≡ marks.room → ((q : Key) → is_marked more q ≡ (is_same e.to q || is_marked marks q)) → IsMarking live gs first rest more
    marking-more more same now =
        record {
          room = same ∙ part.room;
          ends = All-tail (λ (e : Edge). Contains live e.to) e rest (rw next at part.ends);
          known = λ q h. elim (or_cases (is_same e.to q) (is_marked marks q) (sym (now q) ∙ h)) [ inl own ↦ subst (Contains live) (same-is e.to q own) end | inr before ↦ part.known q before ];
          marked = λ q. let before = rw next at part.marked q in rw (now q) (grind (arith, before));
        }

  -- in the end
  pub marking-last : left ≡ [] → (q : Key) → is_marked marks q ≡ (is_marked first q || leads gs q)
  marking-last none q = let all = rw none at part.marked q in grind (arith, all)

-- the edge along the train, and then the others

pub both-hold : (P : Edge → Type 0) (along others gs : List Edge) → IsPermutation (along ++ others) gs → All P gs → All P along × All P others
both-hold P along others gs moved h =
    let all = All-permutation P gs (along ++ others) (IsPermutation-sym (along ++ others) gs moved) h in
    (λ i d l. All-contains P (along ++ others) (get_or along i d) all (Contains-append_left along others (get_or along i d) (Contains-get_or along i d l)), λ i d l. All-contains P (along ++ others) (get_or others i d) all (Contains-append_right along others (get_or others i d) (Contains-get_or others i d l)))

pub both-ends : (live : List Key) (along others gs : List Edge) → IsPermutation (along ++ others) gs → All (λ (e : Edge). Contains live e.to) gs → All (λ (e : Edge). Contains live e.to) along × All (λ (e : Edge). Contains live e.to) others
both-ends live = both-hold (λ (e : Edge). Contains live e.to)

pub next-known : (live : List Key) (along : List Edge) (first next : Marked) → All (Contains live) first.keys → All (λ (e : Edge). Contains live e.to) along → ((q : Key) → is_marked next q ≡ (is_marked first q || leads along q)) → All (Contains live) next.keys
next-known live along first next known ends now =
    each-marked (Contains live) next
    (λ q h. elim (or_cases (is_marked first q) (leads along q) (sym (now q) ∙ h)) [
      | inl before ↦ of-marked (Contains live) first known q before
      | inr there ↦ (let r = find-any (λ (e : Edge). is_same e.to q) along there in subst (Contains live) (same-is r.one.to q r.passes) (All-contains (λ (e : Edge). Contains live e.to) along r.one ends r.there))
    ])

pub both-marked : (along others left gs : List Edge) (may : Edge → Bool) (first next last : Marked) → IsPermutation (along ++ others) (filter may gs) → left ≡ others → ((q : Key) → is_marked next q ≡ (is_marked first q || leads along q))
    → ((q : Key) → is_marked last q ≡ (is_marked next q || leads left q)) → (q : Key) → is_marked last q ≡ (is_marked first q || list_any (λ (e : Edge). is_same e.to q && may e) gs)
both-marked along others left gs may first next last moved is now then q =
    let all : (leads along q || leads others q) ≡ list_any (λ (e : Edge). is_same e.to q && may e) gs = sym (list_any-append (λ (e : Edge). is_same e.to q) along others) ∙ list_any-IsPermutation (λ (e : Edge). is_same e.to q) (along ++ others) (filter may gs) moved ∙ leads-filter may gs q in
    then q ∙ ap (λ ls. is_marked next q || leads ls q) is ∙ ap (λ b. b || leads others q) (now q) ∙ or-assoc (is_marked first q) (leads along q) (leads others q) ∙ ap (λ b. is_marked first q || b) all
  where
    or-assoc : (a b c : Bool) → ((a || b) || c) ≡ (a || (b || c))
    or-assoc true b c = refl
    or-assoc false b c = refl
