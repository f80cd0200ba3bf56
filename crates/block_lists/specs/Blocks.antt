-- Lists in blocks of 256 elements. Within a block the elements stand in their order from some place
-- on, and go on at the first place of the block behind its last.
use Rattle.std.specs.Prelude.{◌≡◌, ℕ, ◌+◌, ◌-◌, ◌*◌, ◌/◌, ◌%◌, ◌<◌, ◌≤◌, ◌^◌, suc, List, [], ◌∷◌}
use Rattle.std.specs.Prelude.{length, nat_eq, if◌then◌else◌, slice_index, slice_index_or, refl}
use Rattle.std.specs.Coded.{Coded, code_by, coded×, coded_ℕ, coded_list}

-- the elements of a list in their order, and for how many more there is room
pub record Blocks (X : Type 0) : Type 0 where
  pub items : List X
  pub room : ℕ

abbrev pub coded_blocks : {X : Type 0} → Coded X → Coded (Blocks X)
coded_blocks {X} coded =
    code_by (List X × ℕ) (coded× (coded_list coded) coded_ℕ) (λ a. (a.items, a.room))
    (λ p. record { items = p.0; room = p.1 }) (λ _. refl)

-- where the element of a place is stored, if these are the places in their blocks at which the
-- first elements of the blocks stand
abbrev pub stored_at : List ℕ → ℕ → ℕ
stored_at starts place =
    place / 256 * 256 + (slice_index starts (place / 256) + place % 256) % 256

-- the element of a place
abbrev pub element : {X : Type 0} → List ℕ → List X → ℕ → X → X
element starts stored place d = slice_index_or stored (stored_at starts place) d

-- as many elements as there are in a list, from a place on
abbrev pub listed : {X : Type 0} → List ℕ → List X → ℕ → List X → List X
listed starts stored place [] = []
listed starts stored place (x ∷ xs) =
    element starts stored place x ∷ listed starts stored (suc place) xs

-- the elements in their order
abbrev pub elements : {X : Type 0} → List ℕ → List X → List X
elements starts stored = listed starts stored 0 stored

-- so many elements fill their blocks, but for the last block, in which they stand in order
pub record AreBlocks (starts : List ℕ) (count : ℕ) : Type 0 where
  pub turned : (block : ℕ) → slice_index starts block < 256
  pub last : (block : ℕ) → count / 256 ≤ block → slice_index starts block ≡ 0
  pub known : count / 256 < length starts

-- there is room for so many more, in numbers of 32 bits
pub record IsStored {X : Type 0} (starts : List ℕ) (stored : List X) (capacity room : ℕ) :
    Type 0 where
  pub blocks : AreBlocks starts (length stored)
  pub room_known : (length stored + room) / 256 < length starts
  pub fits : length stored + room ≤ capacity
  pub few : length stored + room < 2 ^ 32

-- the elements are the same
abbrev pub AreSame : {X : Type 0} → List ℕ → List X → List ℕ → List X → Type 0
AreSame {X} starts stored olds old = (place : ℕ) (d : X) → place < length old
    → element starts stored place d ≡ element olds old place d

-- what stands at a place once an element was put at another, and those from there on moved on
abbrev pub moved_on : {X : Type 0} → (ℕ → X → X) → ℕ → X → ℕ → X → X
moved_on before from item place d = if nat_eq place from then item else before (place - 1) d

-- what stands at a place if an element follows those before its own place
abbrev pub followed : {X : Type 0} → (ℕ → X → X) → ℕ → X → ℕ → X → X
followed before end item place d = if nat_eq place end then item else before place d

-- an element was put at a place, those from there on moved on as far as to another place, and the
-- last of them was taken
pub record IsMovedOn {X : Type 0} (olds : List ℕ) (old : List X) (starts : List ℕ)
    (stored : List X) (from end : ℕ) (item taken : X) : Type 0 where
  pub blocks : AreBlocks starts (length old)
  pub same_length : length stored ≡ length old
  pub same_starts : length starts ≡ length olds
  pub below : (k : ℕ) (d : X) → k < from → element starts stored k d ≡ element olds old k d
  pub moved : (k : ℕ) (d : X) → from ≤ k → k < end
      → element starts stored k d ≡ moved_on (element olds old) from item k d
  pub above : (k : ℕ) (d : X) → end ≤ k → k < length old
      → element starts stored k d ≡ element olds old k d
  pub taken_is : (d : X) → taken ≡ moved_on (element olds old) from item end d

-- an element was taken from a place, those behind it moved back, and another follows the last of
-- them
pub record IsMovedBack {X : Type 0} (olds : List ℕ) (old : List X) (starts : List ℕ)
    (stored : List X) (from end : ℕ) (item taken : X) : Type 0 where
  pub blocks : AreBlocks starts (length old)
  pub same_length : length stored ≡ length old
  pub same_starts : length starts ≡ length olds
  pub below : (k : ℕ) (d : X) → k < from → element starts stored k d ≡ element olds old k d
  pub moved : (k : ℕ) (d : X) → from ≤ k → k < end
      → element starts stored k d ≡ followed (element olds old) end item (k + 1) d
  pub above : (k : ℕ) (d : X) → end ≤ k → k < length old
      → element starts stored k d ≡ element olds old k d
  pub taken_is : (d : X) → taken ≡ followed (element olds old) end item from d

-- the same within a list, up to the place before another
pub record IsShiftedOn {X : Type 0} (old new : List X) (from end : ℕ) (item taken : X) :
    Type 0 where
  pub same_length : length new ≡ length old
  pub below : (k : ℕ) (d : X) → k < from → slice_index_or new k d ≡ slice_index_or old k d
  pub moved : (k : ℕ) (d : X) → from ≤ k → k < end
      → slice_index_or new k d ≡ moved_on (slice_index_or old) from item k d
  pub above : (k : ℕ) (d : X) → end ≤ k → slice_index_or new k d ≡ slice_index_or old k d
  pub taken_is : (d : X) → taken ≡ moved_on (slice_index_or old) from item end d

pub record IsShiftedBack {X : Type 0} (old new : List X) (from end : ℕ) (item taken : X) :
    Type 0 where
  pub same_length : length new ≡ length old
  pub below : (k : ℕ) (d : X) → k < from → slice_index_or new k d ≡ slice_index_or old k d
  pub moved : (k : ℕ) (d : X) → from ≤ k → k < end
      → slice_index_or new k d ≡ followed (slice_index_or old) end item (k + 1) d
  pub above : (k : ℕ) (d : X) → end ≤ k → slice_index_or new k d ≡ slice_index_or old k d
  pub taken_is : (d : X) → taken ≡ followed (slice_index_or old) end item from d
