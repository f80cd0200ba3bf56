-- Lines that are answered one after the other: what was taken from the input, and what is written.
use Rattle.information_service.proofs.Words.{◌≡◌, ℕ, ◌+◌, List, [], ◌∷◌, ◌++◌, length, true, false, Option, refl, sym, ◌∙◌, ap, subst, append_assoc, append-nil, arith, inl, inr, Appends, Appends-nil, Appends-trans, cases_Bool, Line, lines_of, Reader, GivesNext, next_lines, consumes_none, ServiceState, AppendsFront}
use Rattle.mt_io.proofs.Gives.{open_ended}
use Rattle.mt_io.proofs.Runs.{begins, ends}
use Rattle.mt_io.specs.Answers.{LeavesNext}
use Rattle.mt_io.specs.Reader.{IsDone}
use Rattle.mt_io.specs.Runs.{fresh}
use Rattle.mt_io.specs.declared.lines.Next.{Next}
use Rattle.information_service.specs.Answering.{Answering, AreAnsweredBy, AreFirstAnswers, IsBeginning, IsWhole, LineOutput}
use Rattle.information_service.specs.Fronts.{AppendsAll, AppendsFirst, AppendsGatheredFront, AppendsTakenFront, AreAnswered, Begun, Gathers, GathersAnswer, IsTaken}
use Rattle.information_service.proofs.Fronts.{end_was_read, first_lines, first_of, front_after, front_all, front_longer}
use Rattle.information_service.proofs.Gathering.{front-gathered, front-more-gathered, gathered-none, gathers-on, more-behind}
use Rattle.information_service.proofs.OneMore.{taken-more, within_new}

-- the same answer, by equal lines before it and an equal state
answer-moved : {C : Type 0} (A : Answering C) {t u : ServiceState} {k l : C} {m n : ℕ} (x : Line) (text : List ℕ) (now : ServiceState) (kept_now : C)
    → t ≡ u → k ≡ l → m ≡ n → A t k m x text now kept_now → A u l n x text now kept_now
answer-moved A {u = u} {k = k} {l = l} {m = m} {n = n} x text now kept_now is kept number h =
    subst (λ i. A u l i x text now kept_now) number (subst (λ j. A u j m x text now kept_now) kept (subst (λ s. A s k m x text now kept_now) is h))

-- one more line
pub answers-more : {C : Type 0} (A : Answering C) (t : ServiceState)
    (kept : C) (before : ℕ) (lines : List Line) (x : Line) (bytes text : List ℕ) (mid : ServiceState) (kept_mid : C) (now : ServiceState) (kept_now : C)
    → AreAnsweredBy A t kept before lines bytes mid kept_mid
    → A mid kept_mid (before + length lines + 1) x text now kept_now → AreAnsweredBy A t kept before (lines ++ x ∷ []) (bytes ++ text) now kept_now
answers-more A t kept before [] x bytes text mid kept_mid now kept_now none one =
    (text, [], now, kept_now, answer-moved A x text now kept_now none.1 none.2 (omega arith) one, (refl, refl, refl), ap (λ b. b ++ text) none.0 ∙ sym (append-nil text))
answers-more A t kept before (y ∷ ys) x bytes text mid kept_mid now kept_now all one = (
  all.0,
  all.1 ++ text,
  all.2,
  all.3,
  all.4,
  answers-more A all.2 all.3 (before + 1) ys x all.1 text mid kept_mid now kept_now all.5 (answer-moved A x text now kept_now refl refl (omega arith) one),
  ap (λ b. b ++ text) all.6 ∙ append_assoc all.0 all.1 text,
)

-- before the first line
pub nothing-answered : {C : Type 0} (A : Answering C) (t : ServiceState) (kept : C) (budget : ℕ) (r : Reader) (left written : Option (List ℕ))
    → r ≡ fresh budget → AreAnswered A t kept t kept r left left written written [] []
nothing-answered A t kept budget r left written new =
    rw new (record {
      taken = record { source = consumes_none left; lines_so_far = begins budget; end = λ is. open_ended false refl is; within = within_new budget };
      shown = [];
      answers = (refl, refl, refl);
      output = Appends-nil written;
    })

-- lines that were taken from the input and answered. Of the answers a front is written, and the rest is gathered
pub record AreGathered {C : Type 0} (A : Answering C) (first : ServiceState) (kept : C) (now : ServiceState) (kept_now : C) (r : Reader) (left left_now written written_now : Option (List ℕ))
    (gathered bytes : List ℕ) (lines : List Line) : Type 0 where
  pub taken : IsTaken r left left_now bytes lines
  pub shown : List ℕ
  pub answers : AreAnsweredBy A first kept 0 lines shown now kept_now
  pub output : Gathers written written_now shown gathered

pub nothing-gathered : {C : Type 0} (A : Answering C) (t : ServiceState) (kept : C) (budget : ℕ) (r : Reader) (left written : Option (List ℕ)) (gathered : List ℕ)
    → r ≡ fresh budget → gathered ≡ [] → AreGathered A t kept t kept r left left written written gathered [] []
nothing-gathered A t kept budget r left written gathered new none =
    let a = nothing-answered A t kept budget r left written new in
    record { taken = a.taken; shown = []; answers = (refl, refl, refl); output = record { front = []; written = Appends-nil written; all = sym none } }

module _ {C : Type 0} {A : Answering C} {first now : ServiceState} {kept kept_now : C} {old : Reader} {left left_old written written_old : Option (List ℕ)}
    {bytes : List ℕ} {lines : List Line} (a : AreAnswered A first kept now kept_now old left left_old written written_old bytes lines) where
  -- a call that answers no line, and how it leaves the reader
  pub none-more : {new : Reader} {left_new : Option (List ℕ)} (n m : Next)
      → n ≡ m → next_lines m ≡ [] → (old.ended ≡ true → left_new ≡ left_old) → GivesNext old new left_old left_new (next_lines n) × LeavesNext n old new
      → (all : List ℕ) × AreAnswered A first kept now kept_now new left left_new written written_old all lines × LeavesNext m old new
  none-more {new} {left_new} n m is none same gives =
      let next = taken-more a.taken same (subst (λ (ls : List Line). GivesNext old new left_old left_new ls) (ap next_lines is ∙ none) gives.0) in (
        next.0,
        record { taken = subst (IsTaken new left left_new next.0) (append-nil lines) next.1; shown = a.shown; answers = a.answers; output = a.output },
        subst (λ (k : Next). LeavesNext k old new) is gives.1,
      )

  -- lines that were answered have begun
  pub begun-by : {Failed : Type 0} → (Failed → ⊥) → Begun Failed A first kept old left left_old written written_old bytes lines
  begun-by no_fault = record {
    taken = a.taken;
    output = record {
      first = lines;
      later = [];
      shown = a.shown;
      split = append-nil lines;
      is = record { now = now; kept_now = kept_now; answers = a.answers };
      front = front_all no_fault written written_old a.shown a.output;
    };
  }

module _ {C : Type 0} {A : Answering C} {first now : ServiceState} {kept kept_now : C} {old : Reader} {left left_old written written_old : Option (List ℕ)}
    {gathered bytes : List ℕ} {lines : List Line} (a : AreGathered A first kept now kept_now old left left_old written written_old gathered bytes lines) where
  -- where nothing is gathered, all answers are written
  pub all-written : gathered ≡ [] → AreAnswered A first kept now kept_now old left left_old written written_old bytes lines
  all-written none = record { taken = a.taken; shown = a.shown; answers = a.answers; output = gathered-none written written_old a.shown gathered none a.output }

  -- of what was gathered more is written
  pub written-more : {written_new : Option (List ℕ)} (gathered_new : List ℕ) → Gathers written_old written_new gathered gathered_new
      → AreGathered A first kept now kept_now old left left_old written written_new gathered_new bytes lines
  written-more {written_new} gathered_new one = record {
    taken = a.taken;
    shown = a.shown;
    answers = a.answers;
    output = gathers-on written written_old written_new a.shown gathered gathered gathered_new a.shown a.output one (λ front is. is);
  }

  -- a front of what was gathered is written
  pub gathered-begun : {Failed : Type 0} {written_new : Option (List ℕ)} → AppendsFront Failed written_old written_new gathered
      → Begun Failed A first kept old left left_old written written_new bytes lines
  gathered-begun {written_new = written_new} front = record {
    taken = a.taken;
    output = record {
      first = lines;
      later = [];
      shown = a.shown;
      split = append-nil lines;
      is = record { now = now; kept_now = kept_now; answers = a.answers };
      front = front-gathered written written_old written_new a.shown gathered a.output front;
    };
  }

  -- a call that answers one line
  pub line-more : {new : Reader} {left_new written_new : Option (List ℕ)} {next : ServiceState} {kept_next : C} (gathered_new : List ℕ) (x : Line) (number : ℕ)
      → (old.ended ≡ true → left_new ≡ left_old) → GivesNext old new left_old left_new (x ∷ [])
      → number ≡ length lines + 1 → GathersAnswer A now kept_now number x next kept_next written_old written_new gathered gathered_new
      → (all : List ℕ) × AreGathered A first kept next kept_next new left left_new written written_new gathered_new all (lines ++ x ∷ [])
  line-more {written_new = written_new} {next = next} {kept_next = kept_next} gathered_new x number same gives is one =
      let more = taken-more a.taken same gives in (
        more.0,
        record {
          taken = more.1;
          shown = a.shown ++ one.text;
          answers = answers-more A first kept 0 lines x a.shown one.text now kept_now next kept_next a.answers (answer-moved A x one.text next kept_next refl refl (omega (arith, is)) one.is);
          output = gathers-on written written_old written_new a.shown gathered (gathered ++ one.text) gathered_new (a.shown ++ one.text) a.output one.gathers (more-behind a.shown gathered one.text);
        },
      )

  -- a front of what was gathered and of the answer to one line more
  front-more : {Failed : Type 0} {written_new : Option (List ℕ)} (x : Line) (number : ℕ) → number ≡ length lines + 1 → AppendsGatheredFront Failed A now kept_now number x written_old written_new gathered
      → AppendsFirst Failed (AreFirstAnswers A first kept) (lines ++ x ∷ []) written written_new
  front-more {written_new = written_new} x number is (inl front) = record {
    first = lines;
    later = x ∷ [];
    shown = a.shown;
    split = refl;
    is = record { now = now; kept_now = kept_now; answers = a.answers };
    front = front-gathered written written_old written_new a.shown gathered a.output front;
  }
  front-more {written_new = written_new} x number is (inr (text, next, kept_next, one, front)) = record {
    first = lines ++ x ∷ [];
    later = [];
    shown = a.shown ++ text;
    split = append-nil (lines ++ x ∷ []);
    is = record {
      now = next;
      kept_now = kept_next;
      answers = answers-more A first kept 0 lines x a.shown text now kept_now next kept_next a.answers (answer-moved A x text next kept_next refl refl (omega (arith, is)) one);
    };
    front = front-more-gathered written written_old written_new a.shown gathered text a.output front;
  }

  -- a call that answers one line, of whose answer a front is written
  pub line-begun : {Failed : Type 0} {new : Reader} {left_new written_new : Option (List ℕ)} (x : Line) (number : ℕ)
      → (old.ended ≡ true → left_new ≡ left_old) → GivesNext old new left_old left_new (x ∷ [])
      → number ≡ length lines + 1 → AppendsGatheredFront Failed A now kept_now number x written_old written_new gathered
      → (all : List ℕ) × (ls : List Line) × Begun Failed A first kept new left left_new written written_new all ls
  line-begun x number same gives is front =
      let more = taken-more a.taken same gives in
      (more.0, lines ++ x ∷ [], record { taken = more.1; output = front-more x number is front })

-- ---- with what stands before the first line, and behind the last

-- at the end of the input all of it is a whole output of the bytes that were taken
pub whole-of-taken : {C : Type 0} (o : LineOutput C) {first now : ServiceState}
    {kept kept_now : C} {r : Reader} {left left_now written written_now : Option (List ℕ)} {bytes : List ℕ} {lines : List Line} → IsDone r
    → (a : AreAnswered o.answers first kept now kept_now r left left_now written written_now bytes lines)
    → IsWhole o first kept (lines_of true bytes) (o.begins first kept ++ (a.shown ++ o.ends now kept_now))
whole-of-taken o {now = now} {kept_now = kept_now} {r = r} {bytes = bytes} {lines = lines} done a =
    rw (ends bytes lines r a.taken.lines_so_far done) (record { shown = a.shown; answers = record { now = now; kept_now = kept_now; answers = a.answers }; all = refl })

-- where it stops before, it is a beginning of one
pub beginning-of : {C : Type 0} (o : LineOutput C) {first now : ServiceState} {kept kept_now : C} {r : Reader}
    {left left_now before written written_now : Option (List ℕ)} {bytes : List ℕ} {lines : List Line} → Appends before written (o.begins first kept)
    → AreAnswered o.answers first kept now kept_now r left left_now written written_now bytes lines → AppendsAll (IsBeginning o first kept lines) before written_now
beginning-of o {first} {now} {kept} {kept_now} {before = before} {written = written} {written_now = written_now} head a = record {
  shown = o.begins first kept ++ a.shown;
  is = record { shown = a.shown; answers = record { now = now; kept_now = kept_now; answers = a.answers }; all = refl };
  written = Appends-trans before written written_now (o.begins first kept) a.shown head a.output;
}

-- nothing is answered yet, of what stands before the first line too
pub no-answers : {C : Type 0} (o : LineOutput C) (t : ServiceState) (kept : C) → IsBeginning o t kept [] (o.begins t kept ++ [])
no-answers o t kept = record { shown = []; answers = record { now = t; kept_now = kept; answers = (refl, refl, refl) }; all = refl }

-- a front of what stands before the first line is a front of an output
pub front-of-head : {C : Type 0} {Failed : Type 0} (o : LineOutput C) (t : ServiceState) (kept : C) (left old new : Option (List ℕ)) (budget : ℕ) → AppendsFront Failed old new (o.begins t kept)
    → AppendsTakenFront Failed (IsWhole o t kept) (IsBeginning o t kept) budget left left old new
front-of-head o t kept left old new budget f = record {
  bytes = [];
  took = consumes_none left;
  front = inl (record { first = []; later = lines_of false []; shown = o.begins t kept ++ []; split = refl; is = no-answers o t kept; front = front_longer old new (o.begins t kept) [] f });
}

-- and so is a front of the answers behind it
pub front-behind : {C : Type 0} {Failed : Type 0} {o : LineOutput C} {first : ServiceState}
    {kept : C} {r : Reader} {left left_now before written written_now : Option (List ℕ)} {taken : List ℕ} {lines : List Line} (budget : ℕ)
    → r.budget ≡ budget → Appends before written (o.begins first kept)
    → Begun Failed o.answers first kept r left left_now written written_now taken lines
    → AppendsTakenFront Failed (IsWhole o first kept) (IsBeginning o first kept) budget left left_now before written_now
front-behind {C} {Failed} {o} {first} {kept} {r} {left} {left_now} {before} {written} {written_now} {taken} {lines} budget is head b =
    let f = b.output in
    let all : AppendsFirst Failed (IsBeginning o first kept) lines before written_now = record {
      first = f.first;
      later = f.later;
      shown = o.begins first kept ++ f.shown;
      split = f.split;
      is = record { shown = f.shown; answers = f.is; all = refl };
      front = front_after before written written_now (o.begins first kept) f.shown head f.front;
    } in
    elim (cases_Bool r.ended) [
      | inl was ↦
          let more = first_lines r true taken lines (λ is. refl) b.taken.lines_so_far in
          record { bytes = taken; took = b.taken.source; front = inr (end_was_read budget is b.taken was, inl (first_of (lines_of true taken) more.0 more.1 all)) }
      | inr not_yet ↦
          let more = first_lines r false taken lines (λ is. open_ended r.ended not_yet is) b.taken.lines_so_far in
          record { bytes = taken; took = b.taken.source; front = inl (first_of (lines_of false taken) more.0 more.1 all) }
    ]
