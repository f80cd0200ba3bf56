-- What edits of the stored elements make of the list of them.
use Rattle.block_lists.proofs.Words.{◌≡◌, ◌≢◌, ℕ, ◌+◌, ◌-◌, ◌*◌, ◌/◌, ◌<◌, ◌≤◌, List, length, get_or, refl, sym, ◌∙◌, ap, subst, arith, inl, inr, cases_eq, cases_lt, set, insert, remove}
use Rattle.block_lists.proofs.Words.{get_or-insert_above, get_or-insert_at, get_or-insert_below, get_or-remove_above, get_or-remove_below, get_or-set_other, get_or-set_same, get_or_default, length-insert, length-remove, length-set, same_lists}
use Rattle.block_lists.proofs.Words.{AreBlocks, AreSame, Blocks, IsMovedBack, IsMovedOn, element, elements, followed, moved_on, stored_at}
use Rattle.block_lists.proofs.PlaceLemmas.{begins-elsewhere, begins-there, get-element, in-last, inside, length-elements}
use Rattle.block_lists.proofs.ShiftLemmas.{followed-is, followed-other, moved-first, moved-later, moved-other}

-- a list as it is seen
abbrev pub seen : {X : Type 0} → List ℕ → List X → ℕ → Blocks X
seen starts stored room = record { items = elements starts stored; room = room }

-- one element more or less leaves the blocks
pub blocks-more : (starts : List ℕ) (count : ℕ) → AreBlocks starts count → (count + 1) / 256 < length starts → AreBlocks starts (count + 1)
blocks-more starts count h l = record { turned = h.turned; last = λ b m. h.last b (omega (arith, m)); known = l }

pub blocks-fewer : (starts : List ℕ) (count block : ℕ) → 0 < count → block ≡ (count - 1) / 256 → AreBlocks starts count → AreBlocks (set starts block 0) (count - 1)
blocks-fewer starts count block some is h =
    let known : block < length starts = omega (arith, h.known) in
    record {
      turned = λ b. elim (cases_eq b block) [
        | inl e ↦ (let z = begins-there starts block 0 b known e in omega (arith, z))
        | inr n ↦ (let z = begins-elsewhere starts block 0 b n in let t = h.turned b in omega (arith, z, t))
      ];
      last = λ b m. elim (cases_eq b block) [
        | inl e ↦ begins-there starts block 0 b known e
        | inr n ↦ begins-elsewhere starts block 0 b n ∙ h.last b (omega (arith, m, n, is))
      ];
      known = (let c = length-set starts block 0 in omega (arith, c, h.known));
    }

-- where all blocks begin at their first places
pub blocks-settled : (starts : List ℕ) (count : ℕ) → ((b : ℕ) → get_or starts b 0 ≡ 0) → count / 256 < length starts → AreBlocks starts count
blocks-settled starts count none l = record { turned = λ b. (let z = none b in omega (arith, z)); last = λ b m. none b; known = l }

-- what is seen of the length and of the room
pub viewed-length : {X : Type 0} (starts : List ℕ) (stored : List X) (room : ℕ) (b : Blocks X) → seen starts stored room ≡ b → length b.items ≡ length stored
viewed-length {X} starts stored room b e = ap (λ (b : Blocks X). length b.items) (sym e) ∙ length-elements starts stored

pub viewed-room : {X : Type 0} (starts : List ℕ) (stored : List X) (room : ℕ) (b : Blocks X) → seen starts stored room ≡ b → b.room ≡ room
viewed-room {X} starts stored room b e = ap (λ (b : Blocks X). b.room) (sym e)

-- an element before the last block, or within it, is stored before what stands behind it there
stays-before : (starts : List ℕ) (count end k : ℕ) → AreBlocks starts count → count / 256 * 256 ≤ end → k < end → stored_at starts k < end
stays-before starts count end k h l m =
    elim (cases_lt k (count / 256 * 256)) [
      | inl full ↦ omega (arith, l, full)
      | inr part ↦ (let at = in-last starts count k h part in omega (arith, at, m))
    ]

module _ {X : Type 0} (olds : List ℕ) (old : List X) (h : AreBlocks olds (length old)) (place : ℕ) where
  insert-below : (k : ℕ) (item d : X) → k < place → place ≤ length old → get_or (insert (elements olds old) place item) k d ≡ element olds old k d
  insert-below k item d l m =
      let count = length-elements olds old in
      get_or-insert_below (elements olds old) place item d k l (omega (arith, count, m)) ∙ get-element olds old k d h (omega (arith, l, m))

  insert-is : (k : ℕ) (item d : X) → place ≤ k → place ≤ length old → k < length old + 1 → get_or (insert (elements olds old) place item) k d ≡ moved_on (element olds old) place item k d
  insert-is k item d l m n =
      let count = length-elements olds old in
      elim (cases_eq k place) [
        | inl e ↦ moved-first (element olds old) place item _ d k e (ap (λ j. get_or (insert (elements olds old) place item) j d) e ∙ get_or-insert_at (elements olds old) place item d (omega (arith, count, m)))
        | inr e ↦
            (let back : k ≡ k - 1 + 1 = omega (arith, l, e) in
            moved-later (element olds old) place item _ d k e
            (ap (λ j. get_or (insert (elements olds old) place item) j d) back
            ∙ get_or-insert_above (elements olds old) place item d (k - 1) (omega (arith, l, e)) (omega (arith, count, m))
            ∙ get-element olds old (k - 1) d h (omega (arith, l, e, n))))
      ]

  remove-below : (k : ℕ) (d : X) → k < place → place < length old → get_or (remove (elements olds old) place) k d ≡ element olds old k d
  remove-below k d l m =
      let count = length-elements olds old in
      get_or-remove_below (elements olds old) place d k l (omega (arith, count, m)) ∙ get-element olds old k d h (omega (arith, l, m))

  remove-above : (k : ℕ) (d : X) → place ≤ k → k + 1 < length old → get_or (remove (elements olds old) place) k d ≡ element olds old (k + 1) d
  remove-above k d l m =
      let count = length-elements olds old in
      get_or-remove_above (elements olds old) place d k l (omega (arith, count, l, m)) ∙ get-element olds old (k + 1) d h m

  -- an element more
  pub inserted : (starts : List ℕ) (stored : List X) (end : ℕ) (item taken : X) → place ≤ end → end ≤ length old → length old / 256 * 256 ≤ end → (length old + 1) / 256 < length starts → IsMovedOn olds old starts stored place end item taken → elements starts (insert stored end taken) ≡ insert (elements olds old) place item
  inserted starts stored end item taken order within last known g =
      let new = insert stored end taken in
      let count = length-insert stored end taken (omega (arith, g.same_length, within)) in
      let long = length-elements olds old in
      let more = length-insert (elements olds old) place item (omega (arith, long, order, within)) in
      let fits : length new ≡ length old + 1 = omega (arith, count, g.same_length) in
      let blocks = subst (AreBlocks starts) (sym fits) (blocks-more starts (length old) g.blocks known) in
      let room : end ≤ length stored = omega (arith, g.same_length, within) in
      same_lists (elements starts new) (insert (elements olds old) place item) (length-elements starts new ∙ omega (arith, fits, more, long)) (λ k d l.
      let few : k < length old + 1 = omega (arith, l, length-elements starts new, fits) in
      get-element starts new k d blocks (omega (arith, few, fits)) ∙ elim (cases_lt k end) [
        | inl low ↦
            get_or-insert_below stored end taken d (stored_at starts k) (stays-before starts (length old) end k g.blocks last low) room
            ∙ elim (cases_lt k place) [
              | inl below ↦ g.below k d below ∙ sym (insert-below k item d below (omega (arith, order, within)))
              | inr above ↦ g.moved k d above low ∙ sym (insert-is k item d above (omega (arith, order, within)) few)
            ]
        | inr high ↦
            ap (λ j. get_or new j d) (in-last starts (length old) k g.blocks (omega (arith, last, high)))
            ∙ elim (cases_eq k end) [
              | inl e ↦ ap (λ j. get_or new j d) e ∙ get_or-insert_at stored end taken d room ∙ g.taken_is d ∙ ap (λ j. moved_on (element olds old) place item j d) (sym e) ∙ sym (insert-is k item d (omega (arith, order, high)) (omega (arith, order, within)) few)
              | inr n ↦
                  (let back : k ≡ k - 1 + 1 = omega (arith, high, n) in
                  let at = in-last starts (length old) (k - 1) g.blocks (omega (arith, last, high, n)) in
                  ap (λ j. get_or new j d) back
                  ∙ get_or-insert_above stored end taken d (k - 1) (omega (arith, high, n)) room
                  ∙ ap (λ j. get_or stored j d) (sym at)
                  ∙ g.above (k - 1) d (omega (arith, high, n)) (omega (arith, few, high, n))
                  ∙ sym (moved-other (element olds old) place item d k (λ f. omega (arith, f, order, high, n)))
                  ∙ sym (insert-is k item d (omega (arith, order, high)) (omega (arith, order, within)) few))
            ]
      ])

  -- the element of a place replaced
  pub replaced : (item : X) → place < length old → elements olds (set old (stored_at olds place) item) ≡ set (elements olds old) place item
  replaced item l =
      let at = stored_at olds place in
      let new = set old at item in
      let long = length-elements olds old in
      let count = length-set old at item in
      let wide = length-set (elements olds old) place item in
      let blocks = subst (AreBlocks olds) (sym count) h in
      same_lists (elements olds new) (set (elements olds old) place item) (length-elements olds new ∙ omega (arith, count, wide, long)) (λ k d m.
      let few : k < length old = omega (arith, m, length-elements olds new, count) in
      get-element olds new k d blocks (omega (arith, few, count)) ∙ elim (cases_eq k place) [
        | inl e ↦ ap (λ j. get_or new (stored_at olds j) d) e ∙ get_or-set_same old at item d (inside olds (length old) place h l) ∙ sym (ap (λ j. get_or (set (elements olds old) place item) j d) e ∙ get_or-set_same (elements olds old) place item d (omega (arith, long, l)))
        | inr n ↦
            (let one = h.turned (place / 256) in
            let apart : stored_at olds k ≢ at = λ f. elim (cases_eq (k / 256) (place / 256)) [
              | inl own ↦ (let same : get_or olds (k / 256) 0 ≡ get_or olds (place / 256) 0 = ap (λ b. get_or olds b 0) own in n (omega (arith, f, own, same, one)))
              | inr other ↦ other (omega (arith, f))
            ] in
            get_or-set_other old at (stored_at olds k) item d apart ∙ sym (get_or-set_other (elements olds old) place k item d n ∙ get-element olds old k d h few))
      ])

-- an element less
module _ {X : Type 0} (olds : List ℕ) (old stored : List X) (h : AreBlocks olds (length old)) (place end : ℕ) (order : place ≤ end) (within : end < length old) (last : (length old - 1) / 256 * 256 ≤ end) (long : length stored ≡ length old) where
  pub removed : (same : AreSame (set olds ((length old - 1) / 256) 0) stored olds old) (starts : List ℕ) (left : List X) (item taken : X) → item ≡ get_or stored end item → IsMovedBack (set olds ((length old - 1) / 256) 0) (remove stored end) starts left place end item taken → (taken ≡ get_or (elements olds old) place taken) × (elements starts left ≡ remove (elements olds old) place)
  removed same starts left item taken read g =
      let s = set olds ((length old - 1) / 256) 0 in
      let t = remove stored end in
      let count = length-remove stored end (omega (arith, long, within)) in
      let fewer : length t ≡ length old - 1 = omega (arith, count, long) in
      let blocks = blocks-fewer olds (length old) ((length old - 1) / 256) (omega (arith, within)) refl h in
      let room : end < length stored = omega (arith, long, within) in
      let low = λ (k : ℕ) (d : X) (l : k < end). get_or-remove_below stored end d (stored_at s k) (stays-before s (length old - 1) end k blocks last l) room ∙ same k d (omega (arith, l, within)) in
      let high = λ (k : ℕ) (d : X) (l : end ≤ k) (m : k + 1 < length old).
      ap (λ j. get_or t j d) (in-last s (length old - 1) k blocks (omega (arith, l, last)))
      ∙ get_or-remove_above stored end d k l room
      ∙ ap (λ j. get_or stored j d) (sym (in-last s (length old - 1) (k + 1) blocks (omega (arith, l, last))))
      ∙ same (k + 1) d m in
      let end_is = λ (d : X). read ∙ get_or_default stored end item d room ∙ ap (λ j. get_or stored j d) (sym (in-last s (length old - 1) end blocks last)) ∙ same end d within in
      let all = length-elements olds old in
      let less = length-remove (elements olds old) place (omega (arith, all, order, within)) in
      let size : length left ≡ length old - 1 = g.same_length ∙ fewer in
      let own = subst (AreBlocks starts) (sym g.same_length) g.blocks in
      let start : followed (element s t) end item place taken ≡ element olds old place taken = elim (cases_eq place end) [
        | inl e ↦ followed-is (element s t) end item taken place e ∙ end_is taken ∙ ap (λ j. element olds old j taken) (sym e)
        | inr n ↦ followed-other (element s t) end item taken place n ∙ low place taken (omega (arith, order, n))
      ] in (
        g.taken_is taken ∙ start ∙ sym (get-element olds old place taken h (omega (arith, order, within))),
        same_lists (elements starts left) (remove (elements olds old) place) (length-elements starts left ∙ omega (arith, size, less, all, within)) (λ k d l.
            let few : k < length old - 1 = omega (arith, l, length-elements starts left, size) in
            get-element starts left k d own (omega (arith, few, size)) ∙ elim (cases_lt k end) [
              | inl before ↦ elim (cases_lt k place) [
                | inl below ↦ g.below k d below ∙ low k d before ∙ sym (remove-below olds old h place k d below (omega (arith, order, within)))
                | inr above ↦ g.moved k d above before ∙ elim (cases_eq (k + 1) end) [
                  | inl e ↦ followed-is (element s t) end item d (k + 1) e ∙ end_is d ∙ ap (λ j. element olds old j d) (sym e) ∙ sym (remove-above olds old h place k d above (omega (arith, few)))
                  | inr n ↦ followed-other (element s t) end item d (k + 1) n ∙ low (k + 1) d (omega (arith, before, n)) ∙ sym (remove-above olds old h place k d above (omega (arith, few)))
                ]
              ]
              | inr after ↦ g.above k d after (omega (arith, few, fewer)) ∙ high k d after (omega (arith, few)) ∙ sym (remove-above olds old h place k d (omega (arith, order, after)) (omega (arith, few)))
            ]),
      )

-- where all blocks are in order, the elements are as they are stored
pub in-order : {X : Type 0} (starts : List ℕ) (stored : List X) → AreBlocks starts (length stored) → ((b : ℕ) → get_or starts b 0 ≡ 0) → elements starts stored ≡ stored
in-order starts stored h none =
    same_lists (elements starts stored) stored (length-elements starts stored) (λ k d l.
    let zero_start = none (k / 256) in
    let at : stored_at starts k ≡ k = omega (arith, zero_start) in
    get-element starts stored k d h (omega (arith, l, length-elements starts stored)) ∙ ap (λ j. get_or stored j d) at)

-- the elements are the same lists where each is
pub same-elements : {X : Type 0} (olds : List ℕ) (old : List X) (starts : List ℕ) (stored : List X) → AreBlocks olds (length old) → AreBlocks starts (length stored) → length stored ≡ length old → AreSame starts stored olds old → elements starts stored ≡ elements olds old
same-elements olds old starts stored h g long same =
    same_lists (elements starts stored) (elements olds old) (length-elements starts stored ∙ long ∙ sym (length-elements olds old)) (λ k d l.
    let few : k < length old = omega (arith, l, length-elements starts stored, long) in
    get-element starts stored k d g (omega (arith, few, long)) ∙ same k d few ∙ sym (get-element olds old k d h few))
