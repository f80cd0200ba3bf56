-- Bytes of which a front is written, and the rest is gathered.
use Rattle.information_service.proofs.Words.{◌≡◌, ◌∙◌, ℕ, List, [], ◌++◌, Option, sym, ap, subst, append_assoc, append-nil, Appends, Appends-trans, AppendsFront}
use Rattle.information_service.specs.Fronts.{Gathers}
use Rattle.information_service.proofs.Fronts.{front_after}

-- what goes behind what is gathered goes behind all
pub more-behind : (bytes gathered text front : List ℕ) → bytes ≡ front ++ gathered → bytes ++ text ≡ front ++ (gathered ++ text)
more-behind bytes gathered text front is = ap (λ (bs : List ℕ). bs ++ text) is ∙ append_assoc front gathered text

-- of what is gathered, and of what comes then, more is written
pub gathers-on : (a b c : Option (List ℕ)) (bytes gathered more now whole : List ℕ) → (one : Gathers a b bytes gathered) → Gathers b c more now
    → ((front : List ℕ) → bytes ≡ front ++ gathered → whole ≡ front ++ more) → Gathers a c whole now
gathers-on a b c bytes gathered more now whole one two behind = record {
  front = one.front ++ two.front;
  written = Appends-trans a b c one.front two.front one.written two.written;
  all = behind one.front one.all ∙ ap (λ (bs : List ℕ). one.front ++ bs) two.all ∙ sym (append_assoc one.front two.front now);
}

-- where nothing is gathered, all is written
pub gathered-none : (a b : Option (List ℕ)) (bytes gathered : List ℕ) → gathered ≡ [] → Gathers a b bytes gathered → Appends a b bytes
gathered-none a b bytes gathered none one =
    subst (Appends a b) (sym (one.all ∙ ap (λ (bs : List ℕ). one.front ++ bs) none ∙ append-nil one.front)) one.written

-- a front of what was gathered is a front of all
pub front-gathered : {Failed : Type 0} (a b c : Option (List ℕ)) (bytes gathered : List ℕ) → Gathers a b bytes gathered → AppendsFront Failed b c gathered → AppendsFront Failed a c bytes
front-gathered {Failed} a b c bytes gathered one f = subst (AppendsFront Failed a c) (sym one.all) (front_after a b c one.front gathered one.written f)

-- behind what was gathered and is written, a text is written, all of it or a front
pub both-written : (a b c : Option (List ℕ)) (bytes text gathered : List ℕ) → Appends a b bytes → gathered ≡ [] → Appends b c text → Gathers a c (bytes ++ text) gathered
both-written a b c bytes text gathered one none two = record {
  front = bytes ++ text;
  written = Appends-trans a b c bytes text one two;
  all = sym (append-nil (bytes ++ text)) ∙ ap (λ (bs : List ℕ). (bytes ++ text) ++ bs) (sym none);
}

-- the rest is written too
pub rest-written : (a b c : Option (List ℕ)) (bytes gathered : List ℕ) → Gathers a b bytes gathered → Appends b c gathered → Appends a c bytes
rest-written a b c bytes gathered one two = subst (Appends a c) (sym one.all) (Appends-trans a b c one.front gathered one.written two)

-- a front of what was gathered and of a text behind it is a front of all
pub front-more-gathered : {Failed : Type 0} (a b c : Option (List ℕ)) (bytes gathered text : List ℕ)
    → Gathers a b bytes gathered → AppendsFront Failed b c (gathered ++ text) → AppendsFront Failed a c (bytes ++ text)
front-more-gathered {Failed} a b c bytes gathered text one f =
    subst (AppendsFront Failed a c) (sym (more-behind bytes gathered text one.front one.all)) (front_after a b c one.front (gathered ++ text) one.written f)
