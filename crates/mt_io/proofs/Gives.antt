-- How the calls of a line reader follow each other.
use Rattle.std.proofs.Common.{◌≡◌, ◌+◌, ◌<◌, ◌≤◌, ◌++◌, ◌∙◌, ℕ, List, [], length, Bool, true, false, Option, Some, None, arith, ap, sym, refl, append_assoc, inl, inr}
use Rattle.std.proofs.lemmas.Bool.{cases_Bool}
use Rattle.std.proofs.lemmas.List.{append-nil, length-append}
use Rattle.std.specs.Io.KnownBytes.{Consumes, Keeps}
use Rattle.mt_io.specs.Lines.{Line, lines_past}
use Rattle.mt_io.specs.Reader.{Reader, ahead, CanCome, Gives, HoldsNoLine, CanReadOn, IsWithinBudget, work}
use Rattle.mt_io.specs.Steps.{Waits, Takes, TookNothing, SameCounts}
use Rattle.mt_io.proofs.LineFacts.{no_line, none_past}

pub consumes_none : (left : Option (List ℕ)) → Consumes left left []
consumes_none None = tt
consumes_none (Some left) = refl

pub consumes_more : (a b c : Option (List ℕ)) (xs ys : List ℕ) → Consumes a b xs → Consumes b c ys → Consumes a c (xs ++ ys)
consumes_more None b c xs ys p q = tt
consumes_more (Some a) None c xs ys p q = absurd p
consumes_more (Some a) (Some b) None xs ys p q = absurd q
consumes_more (Some a) (Some b) (Some c) xs ys p q = p ∙ ap (λ (l : List ℕ). xs ++ l) q ∙ sym (append_assoc xs ys c)

consumes_kept : (a b c : Option (List ℕ)) (xs : List ℕ) → Consumes a b xs → Keeps b c → Consumes a c xs
consumes_kept None b c xs p q = tt
consumes_kept (Some a) None c xs p q = absurd p
consumes_kept (Some a) (Some b) None xs p q = absurd q
consumes_kept (Some a) (Some b) (Some c) xs p q = p ∙ ap (λ (l : List ℕ). xs ++ l) (sym q)

pub waits_none : (r : Reader) → Waits r → HoldsNoLine r
waits_none r waits = elim (cases_Bool r.inside_long) [
  | inl on ↦ (λ k. lines_past r.inside_long false (waits.passed on k)) ∙ none_past r.inside_long false
  | inr off ↦ (λ k. lines_past (off k) false r.held) ∙ no_line r.held waits.lf waits.small
]

-- a reader whose end was not read is not at its end
pub open_ended : {P : Type 0} (ended : Bool) → ended ≡ false → ended ≡ true → P
open_ended true p q = absurd (cc)
open_ended false p q = absurd (cc)

-- a reader with the same counts is within its budget too
pub within_same : (a b : Reader) → SameCounts a b → IsWithinBudget a → IsWithinBudget b
within_same a b same h = record {
  taken = omega (arith, same.taken, same.budget, h.taken);
  ended = λ is. omega (arith, same.taken, same.budget, h.ended (sym same.ended ∙ is));
}

-- and one that took bytes: where none came it is at the end
within_filled : (a b : Reader) (left now : Option (List ℕ)) (bytes : List ℕ) → Takes a b left now bytes → a.taken < a.budget → IsWithinBudget b
within_filled a b left now bytes took more = record {
  taken = took.within;
  ended = λ is. omega (arith, took.taken, took.budget, more, ap length (took.end is).0);
}

pub gives_nothing : (r : Reader) (left : Option (List ℕ)) → Gives r r left left [] []
gives_nothing r left = record {
  source = consumes_none left;
  taken = omega arith;
  budget = refl;
  within = λ h. h;
  lines_ahead = λ rest ended can. refl;
  still_ended = λ is. (is, refl);
  end = λ not_yet is. open_ended r.ended not_yet is;
}

-- the lines that were found in what was held after the bytes were taken
pub gives_held : (a b c : Reader) (left now : Option (List ℕ)) (bytes : List ℕ) (lines : List Line) → Gives a b left now bytes []
    → SameCounts b c → ((rest : List ℕ) (ended : Bool) → CanCome c rest ended → ahead b rest ended ≡ lines ++ ahead c rest ended) → Gives a c left now bytes lines
gives_held a b c left now bytes lines so_far same next = record {
  source = so_far.source;
  taken = same.taken ∙ so_far.taken;
  budget = same.budget ∙ so_far.budget;
  within = λ h. within_same b c same (so_far.within h);
  lines_ahead = λ rest ended can. so_far.lines_ahead rest ended (λ is. can (same.ended ∙ is)) ∙ next rest ended can;
  still_ended = λ is. (same.ended ∙ (so_far.still_ended is).0, (so_far.still_ended is).1);
  end = λ not_yet is. so_far.end not_yet (sym same.ended ∙ is);
}

-- what is held was looked at first
pub gives_after : (a b c : Reader) (left now : Option (List ℕ)) (bytes : List ℕ) (lines : List Line) → SameCounts a b
    → ((rest : List ℕ) (ended : Bool) → ahead a rest ended ≡ ahead b rest ended) → Gives b c left now bytes lines → Gives a c left now bytes lines
gives_after a b c left now bytes lines same first next = record {
  source = next.source;
  taken = next.taken ∙ ap (λ (n : ℕ). n + length bytes) same.taken;
  budget = next.budget ∙ same.budget;
  within = λ h. next.within (within_same a b same h);
  lines_ahead = λ rest ended can. first (bytes ++ rest) ended ∙ next.lines_ahead rest ended can;
  still_ended = λ is. next.still_ended (same.ended ∙ is);
  end = λ not_yet is. next.end (same.ended ∙ not_yet) is;
}

-- more bytes were taken
pub gives_fill : (a b c : Reader) (left mid now : Option (List ℕ)) (bytes more : List ℕ) → Gives a b left mid bytes [] → b.ended ≡ false → b.taken < b.budget → Takes b c mid now more → Gives a c left now (bytes ++ more) []
gives_fill a b c left mid now bytes more so_far not_yet fewer took = record {
  source = consumes_more left mid now bytes more so_far.source took.source;
  taken = omega (arith, took.taken, so_far.taken, length-append bytes more);
  budget = took.budget ∙ so_far.budget;
  within = λ h. within_filled b c mid now more took fewer;
  lines_ahead = λ rest ended can.
      ap (λ (l : List ℕ). ahead a l ended) (append_assoc bytes more rest)
      ∙ so_far.lines_ahead (more ++ rest) ended (λ is. open_ended b.ended not_yet is)
      ∙ ap (λ (l : List ℕ). lines_past b.inside_long ended l) (sym (append_assoc b.held more rest))
      ∙ (λ k. lines_past (sym took.inside_long k) ended (sym took.held k ++ rest));
  still_ended = λ is. open_ended b.ended not_yet (so_far.still_ended is).0;
  end = λ _ is. (took.end is).1;
}

-- a read failed
pub gives_kept : (a b c : Reader) (left mid now : Option (List ℕ)) (bytes : List ℕ) → Gives a b left mid bytes [] → TookNothing b c mid now → b.ended ≡ false → Gives a c left now bytes []
gives_kept a b c left mid now bytes so_far took not_yet = record {
  source = consumes_kept left mid now bytes so_far.source took.source;
  taken = took.counts.taken ∙ so_far.taken;
  budget = took.counts.budget ∙ so_far.budget;
  within = λ h. within_same b c took.counts (so_far.within h);
  lines_ahead = λ rest ended can.
      so_far.lines_ahead rest ended (λ is. can (took.counts.ended ∙ is))
      ∙ (λ k. lines_past (sym took.inside_long k) ended (sym took.held k ++ rest));
  still_ended = λ is. open_ended b.ended not_yet (so_far.still_ended is).0;
  end = λ _ is. open_ended b.ended not_yet (sym took.counts.ended ∙ is);
}

-- where no line was held after a look at what is held, none was before
pub none_before : (a b : Reader) → ahead a [] false ≡ ahead b [] false → HoldsNoLine b → HoldsNoLine a
none_before a b same none =
    ap (lines_past a.inside_long false) (sym (append-nil a.held)) ∙ same ∙ ap (lines_past b.inside_long false) (append-nil b.held) ∙ none

-- what was taken is held, so as much is left to do
pub work_filled : (b c : Reader) (mid now : Option (List ℕ)) (more : List ℕ) → Takes b c mid now more → work c ≤ work b
work_filled b c mid now more took = omega (arith, took.taken, took.within, took.budget, ap length took.held, length-append b.held more)

-- after a read that failed, the next call can read on
pub can_read_on : (b c : Reader) (mid now : Option (List ℕ)) → TookNothing b c mid now → Waits b → b.ended ≡ false → b.taken < b.budget → CanReadOn c
can_read_on b c mid now took waits not_yet more = record {
  ended = took.counts.ended ∙ not_yet;
  none = (λ k. lines_past (took.inside_long k) false (took.held k)) ∙ waits_none b waits;
  taken = omega (arith, took.counts.taken, took.counts.budget);
}
