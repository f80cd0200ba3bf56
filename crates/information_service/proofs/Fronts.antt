-- Fronts of what is to be written, one after the other.
use Rattle.information_service.proofs.Words.{◌≡◌, ◌∙◌, ◌+◌, ◌≤◌, ℕ, zero, suc, List, [], ◌++◌, Option, sym, subst, ap, refl, append_assoc, arith, true, inr, Appends-nil, Appends-trans, append-nil, Appends, Network, State, header, rows_from, rows_of_train, Line, lines_of, Reader, Names, AppendsFront}
use Rattle.std.proofs.Common.{◌-◌, Bool, inl, take, drop}
use Rattle.std.proofs.lemmas.List.{take-append-drop}
use Rattle.std.specs.Prelude.{Result, Ok, Err, OnOk, IfErr, IsErrOf}
use Rattle.std.proofs.lemmas.List.{length-append}
use Rattle.std.proofs.Common.{length-drop}
use Rattle.information_service.specs.declared.fault.LinesFault.{LinesFault}
use Rattle.information_service.specs.declared.fault.LinesFault.TheVariants.{WriteFault}
use Rattle.information_service.proofs.Ends.{same_err, ok_not_err}
use Rattle.mt_io.specs.Causes.{AppendsPart}
use Rattle.mt_io.specs.Reader.{ahead}
use Rattle.mt_io.specs.Runs.{HasAnswered}
use Rattle.information_service.specs.Fronts.{AppendsAll, AppendsFirst, AppendsTakenFront, EndWasRead, IsTaken}

pub front_none : {Failed : Type 0} → (Failed → ⊥) → (a : Option (List ℕ)) (bytes : List ℕ) → AppendsFront Failed a a bytes
front_none no_fault a bytes = record { front = []; rest = bytes; written = Appends-nil a; all = refl; not_all = λ is. absurd (no_fault is) }

pub front_all : {Failed : Type 0} → (Failed → ⊥) → (a b : Option (List ℕ)) (bytes : List ℕ) → Appends a b bytes → AppendsFront Failed a b bytes
front_all no_fault a b bytes w = record { front = bytes; rest = []; written = w; all = append-nil bytes; not_all = λ is. absurd (no_fault is) }

pub front_part : {Failed : Type 0} (a b : Option (List ℕ)) (bytes : List ℕ) → AppendsPart a b bytes → AppendsFront Failed a b bytes
front_part a b bytes part =
    record {
      front = take part.0 bytes;
      rest = drop part.0 bytes;
      written = part.2;
      all = take-append-drop part.0 bytes;
      not_all = λ is. omega (arith, part.1, length-drop part.0 bytes);
    }

pub front_longer : {Failed : Type 0} (a b : Option (List ℕ)) (bytes more : List ℕ) → AppendsFront Failed a b bytes → AppendsFront Failed a b (bytes ++ more)
front_longer a b bytes more f =
    record {
      front = f.front;
      rest = f.rest ++ more;
      written = f.written;
      all = sym (append_assoc f.front f.rest more) ∙ ap (λ (bs : List ℕ). bs ++ more) f.all;
      not_all = λ is. omega (arith, f.not_all is, length-append f.rest more);
    }

pub front_after : {Failed : Type 0} (a b c : Option (List ℕ)) (bytes more : List ℕ) → Appends a b bytes → AppendsFront Failed b c more → AppendsFront Failed a c (bytes ++ more)
front_after a b c bytes more w f =
    record {
      front = bytes ++ f.front;
      rest = f.rest;
      written = Appends-trans a b c bytes f.front w f.written;
      all = append_assoc bytes f.front f.rest ∙ ap (λ (bs : List ℕ). bytes ++ bs) f.all;
      not_all = f.not_all;
    }

-- a front where less is known of a write
pub front_if : {Failed Known : Type 0} (known : Known → Failed) (a b : Option (List ℕ)) (bytes : List ℕ) → AppendsFront Failed a b bytes → AppendsFront Known a b bytes
front_if known a b bytes f = record { front = f.front; rest = f.rest; written = f.written; all = f.all; not_all = λ is. f.not_all (known is) }

-- what was written, whether all went well or not, is a front
pub front_of_result : (run : Result (Unit {0}) LinesFault) (a b : Option (List ℕ)) (bytes : List ℕ)
    → OnOk run (Appends a b bytes) → IfErr run (λ f. AppendsFront (f ≡ WriteFault) a b bytes) → AppendsFront (IsErrOf run WriteFault) a b bytes
front_of_result (Ok u) a b bytes all part = front_all (ok_not_err (Ok u) u WriteFault refl) a b bytes all
front_of_result (Err f) a b bytes all part = front_if (same_err (Err f) f WriteFault refl) a b bytes part

-- the same of the replies to the first lines, and of what was taken
first_if : {Failed Known : Type 0} {Are : List Line → List ℕ → Type 0} {lines : List Line} {old new : Option (List ℕ)} (known : Known → Failed)
    → AppendsFirst Failed Are lines old new → AppendsFirst Known Are lines old new
first_if {old = old} {new = new} known f = record { first = f.first; later = f.later; shown = f.shown; split = f.split; is = f.is; front = front_if known old new f.shown f.front }

pub taken_if : {Failed Known : Type 0} {IsWhole Are : List Line → List ℕ → Type 0} {budget : ℕ} {left left_now written written_now : Option (List ℕ)} (known : Known → Failed)
    → AppendsTakenFront Failed IsWhole Are budget left left_now written written_now → AppendsTakenFront Known IsWhole Are budget left left_now written written_now
taken_if {written = written} {written_now = written_now} known t = record {
  bytes = t.bytes;
  took = t.took;
  front = elim t.front [
    | inl first ↦ inl (first_if known first)
    | inr whole ↦ inr (whole.0, elim whole.1 [ inl first ↦ inl (first_if known first) | inr all ↦ inr (all.0, all.1, front_if known written written_now all.0 all.2) ])
  ];
}

-- the rows of the first trains are a front of the rows of more
rows-split : (names : Names) (nw : Network) (st : State) (first m n : ℕ) → rows_from names nw st first (m + n) ≡ rows_from names nw st first m ++ rows_from names nw st (first + m) n
unfolding rows_from
rows-split names nw st first zero n =
    ap (λ (k : ℕ). rows_from names nw st first k) (let e : 0 + n ≡ n = omega arith in e)
    ∙ ap (λ (k : ℕ). rows_from names nw st k n) (let e : first ≡ first + 0 = omega arith in e)
rows-split names nw st first (suc m) n =
    ap (rows_from names nw st first) (let e : suc m + n ≡ suc (m + n) = omega arith in e)
    ∙ ap (λ (rest : List ℕ). rows_of_train names nw st first ++ rest) (rows-split names nw st (first + 1) m n)
    ∙ sym (append_assoc (rows_of_train names nw st first) (rows_from names nw st (first + 1) m) (rows_from names nw st (first + 1 + m) n))
    ∙ ap (λ (k : ℕ). (rows_of_train names nw st first ++ rows_from names nw st (first + 1) m) ++ rows_from names nw st k n) (let e : first + 1 + m ≡ first + suc m = omega arith in e)

-- the rows of one train more
pub rows-more : (names : Names) (nw : Network) (st : State) (n : ℕ) → rows_from names nw st 0 (n + 1) ≡ rows_from names nw st 0 n ++ rows_of_train names nw st n
unfolding rows_from
rows-more names nw st n =
    rows-split names nw st 0 n 1
    ∙ ap (λ (rest : List ℕ). rows_from names nw st 0 n ++ rest) (append-nil (rows_of_train names nw st (0 + n)) ∙ ap (rows_of_train names nw st) (let e : 0 + n ≡ n = omega arith in e))

-- a front of the header and of the rows of the first trains is a front of the table
pub table_front : {Failed : Type 0} (names : Names) (nw : Network) (st : State) (a b : Option (List ℕ)) (m count : ℕ)
    → m ≤ count → AppendsFront Failed a b (header ++ rows_from names nw st 0 m) → AppendsFront Failed a b (header ++ rows_from names nw st 0 count)
table_front {Failed = Failed} names nw st a b m count l f =
    let is : m + (count - m) ≡ count = omega (arith, l) in
    subst (AppendsFront Failed a b)
    (append_assoc header (rows_from names nw st 0 m) (rows_from names nw st (0 + m) (count - m))
    ∙ ap (λ (bs : List ℕ). header ++ bs) (sym (rows-split names nw st 0 m (count - m)) ∙ ap (rows_from names nw st 0) is))
    (front_longer a b (header ++ rows_from names nw st 0 m) (rows_from names nw st (0 + m) (count - m)) f)

-- the lines of the bytes that were taken begin with those that were answered
pub first_lines : (r : Reader) (ended : Bool) (taken : List ℕ) (lines : List Line)
    → (r.ended ≡ true → ended ≡ true) → HasAnswered taken lines r → (more : List Line) × (lines_of ended taken ≡ lines ++ more)
first_lines r ended taken lines can answered =
    (ahead r [] ended, ap (lines_of ended) (sym (append-nil taken)) ∙ answered.lines_ahead [] ended (λ is. (refl, can is)))

-- where the end was read, fewer bytes were taken than may be
pub end_was_read : {r : Reader} {left left_now : Option (List ℕ)} {bytes : List ℕ} {lines : List Line} (budget : ℕ)
    → r.budget ≡ budget → IsTaken r left left_now bytes lines → r.ended ≡ true → EndWasRead budget left_now bytes
end_was_read budget is t ended = record { left = t.end ended; fewer = omega (arith, is, t.within.ended ended, t.lines_so_far.taken) }

-- a front of the replies to the first of some lines is one of more lines
pub first_of : {Failed : Type 0} {Are : List Line → List ℕ → Type 0} {lines : List Line} {old new : Option (List ℕ)} (all more : List Line)
    → all ≡ lines ++ more → AppendsFirst Failed Are lines old new → AppendsFirst Failed Are all old new
first_of all more is f = record {
  first = f.first;
  later = f.later ++ more;
  shown = f.shown;
  split = sym (append_assoc f.first f.later more) ∙ ap (λ (ls : List Line). ls ++ more) f.split ∙ sym is;
  is = f.is;
  front = f.front;
}

-- what holds of these bytes holds of those that were written
pub all_as : {P Q : List ℕ → Type 0} {old new : Option (List ℕ)} → ((bytes : List ℕ) → P bytes → Q bytes) → AppendsAll P old new → AppendsAll Q old new
all_as also a = record { shown = a.shown; is = also a.shown a.is; written = a.written }

first_as : {Failed : Type 0} {Are Bre : List Line → List ℕ → Type 0} {lines : List Line} {old new : Option (List ℕ)}
    → ((ls : List Line) (bytes : List ℕ) → Are ls bytes → Bre ls bytes) → AppendsFirst Failed Are lines old new → AppendsFirst Failed Bre lines old new
first_as also f = record { first = f.first; later = f.later; shown = f.shown; split = f.split; is = also f.first f.shown f.is; front = f.front }

pub taken_as : {Failed : Type 0} {IsAll IsOther Are Bre : List Line → List ℕ → Type 0} {budget : ℕ} {left left_now written written_now : Option (List ℕ)}
    → ((ls : List Line) (bytes : List ℕ) → IsAll ls bytes → IsOther ls bytes)
    → ((ls : List Line) (bytes : List ℕ) → Are ls bytes → Bre ls bytes) → AppendsTakenFront Failed IsAll Are budget left left_now written written_now
    → AppendsTakenFront Failed IsOther Bre budget left left_now written written_now
taken_as whole also t = record {
  bytes = t.bytes;
  took = t.took;
  front = elim t.front [
    | inl first ↦ inl (first_as also first)
    | inr read ↦ inr (read.0, elim read.1 [ inl first ↦ inl (first_as also first) | inr all ↦ inr (all.0, whole (lines_of true t.bytes) all.0 all.1, all.2) ])
  ];
}
