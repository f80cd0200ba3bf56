-- What a journal is refused for, by the bytes that were taken of it and by all of them.
use Rattle.std.proofs.Common.{◌≡◌, ◌∙◌, ◌-◌, ◌<◌, ◌≤◌, ◌++◌, ℕ, suc, zero, List, [], ◌∷◌, length, take, Option, Some, None, sym, ap, subst, inl, inr, arith, append-nil}
use Rattle.std.proofs.lemmas.List.{length-append, take_all}
use Rattle.std.proofs.lemmas.Option.{none-some, same_Some}
use Rattle.std.specs.Io.KnownBytes.{Consumes}
use Rattle.followed_input.specs.FollowedJournals.{IsRefusedSoFar}
use Rattle.information_service.proofs.Ends.{all_taken}
use Rattle.information_service.specs.Fronts.{EndWasRead}
use Rattle.journal_replay.proofs.ByteLemmas.{read-append, refused-stays}
use Rattle.journal_replay.specs.Reading.{JournalProgress, nothing_read}
use Rattle.journal_replay.specs.Replayed.{refusal_at_end, refused_by}
use Rattle.journal_replay.specs.declared.refusal.JournalRefusal.{JournalRefusal}
use Rattle.commands.specs.FollowTasks.{FollowStart, IsJournalRefused, IsTooLong, IsWhole, read_from}

-- ---- bytes

-- some of the bytes that begin others, and no more than they are
pub take-within : (n : ℕ) (xs ys : List ℕ) → length xs ≤ n → take n (xs ++ ys) ≡ xs ++ take (n - length xs) ys
take-within n [] ys few = ap (λ (k : ℕ). take k ys) (let is : n ≡ n - 0 = omega arith in is)
take-within zero (x ∷ xs) ys few = absurd (omega (arith, few))
take-within (suc n) (x ∷ xs) ys few =
    ap (λ (l : List ℕ). x ∷ l) (take-within n xs ys (omega (arith, few)) ∙ ap (λ (k : ℕ). xs ++ take k ys) (let is : n - length xs ≡ suc n - length (x ∷ xs) = omega arith in is))

-- bytes that were taken of these begin them
pub begin-them : (left left_now : Option (List ℕ)) (bytes all : List ℕ) → Consumes left left_now bytes → left ≡ Some all → (rest : List ℕ) × (all ≡ bytes ++ rest)
begin-them None left_now bytes all source told = absurd (none-some all told)
begin-them (Some xs) None bytes all source told = absurd source
begin-them (Some xs) (Some ys) bytes all source told = (ys, sym (same_Some xs all told) ∙ source)

-- ---- refusals

-- what is refused so far stays refused for the same
module _ (start : FollowStart) where
  stays : (bytes more : List ℕ) (why : JournalRefusal) → (read_from start bytes).refusal ≡ Some why → (read_from start (bytes ++ more)).refusal ≡ Some why
  stays bytes more why is =
      let p : JournalProgress = read_from start bytes in
      ap (λ (q : JournalProgress). q.refusal) (read-append start.header (nothing_read start.service) bytes more ∙ refused-stays start.header p why more is) ∙ is

  -- and is so at the end
  at-end : (bytes : List ℕ) (why : JournalRefusal) → (read_from start bytes).refusal ≡ Some why → refusal_at_end (read_from start bytes) ≡ Some why
  at-end bytes why is = ap (refused_by (read_from start bytes).lines) is

  -- a journal is refused for one thing
  one-refusal : (budget : ℕ) (all : List ℕ) (one other : JournalRefusal) → IsJournalRefused budget start all one → IsJournalRefused budget start all other → one ≡ other
  one-refusal budget all one other (inl h) (inl k) = same_Some one other (sym h ∙ k)
  one-refusal budget all one other (inl h) (inr k) =
      let whole : take budget all ≡ all = take_all budget all (omega (arith, k.0)) in
      same_Some one other (sym (at-end all one (subst (λ (l : List ℕ). (read_from start l).refusal ≡ Some one) whole h)) ∙ k.1)
  one-refusal budget all one other (inr h) (inl k) =
      let whole : take budget all ≡ all = take_all budget all (omega (arith, h.0)) in
      same_Some one other (sym h.1 ∙ at-end all other (subst (λ (l : List ℕ). (read_from start l).refusal ≡ Some other) whole k))
  one-refusal budget all one other (inr h) (inr k) = same_Some one other (sym h.1 ∙ k.1)

  -- what was refused by the bytes that were taken is to be refused
  pub refused-taken : (budget : ℕ) (left left_now : Option (List ℕ)) (bytes all : List ℕ) (why : JournalRefusal) → Consumes left left_now bytes → left ≡ Some all → length bytes ≤ budget
      → IsRefusedSoFar budget left_now bytes (read_from start bytes) why → IsJournalRefused budget start all why
  refused-taken budget left left_now bytes all why source told few (inl line) =
      let begins = begin-them left left_now bytes all source told in
      let more : List ℕ = take (budget - length bytes) begins.0 in
      let is : bytes ++ more ≡ take budget all = sym (take-within budget bytes begins.0 few) ∙ ap (take budget) (sym begins.1) in
      inl (subst (λ (l : List ℕ). (read_from start l).refusal ≡ Some why) is (stays bytes more why line))
  refused-taken budget left left_now bytes all why source told few (inr end) =
      let is : bytes ≡ all = all_taken left left_now all bytes source end.0.left told in
      inr (subst (λ (l : List ℕ). (length l < budget) × (refusal_at_end (read_from start l) ≡ Some why)) is (end.0.fewer, end.1))

  -- so it is the only thing that is
  pub refused-for : (budget : ℕ) (left left_now : Option (List ℕ)) (bytes all : List ℕ) (why other : JournalRefusal) → Consumes left left_now bytes → left ≡ Some all → length bytes ≤ budget
      → IsRefusedSoFar budget left_now bytes (read_from start bytes) why → IsJournalRefused budget start all other → other ≡ why
  refused-for budget left left_now bytes all why other source told few so due =
      one-refusal budget all other why due (refused-taken budget left left_now bytes all why source told few so)

  -- a journal that is whole and not refused is not to be refused
  pub whole-not-refused : (budget : ℕ) (all : List ℕ) (why : JournalRefusal) → IsWhole budget start all → ¬ (IsJournalRefused budget start all why)
  whole-not-refused budget all why whole (inl h) =
      let is : take budget all ≡ all = take_all budget all (omega (arith, whole.0)) in
      none-some why (sym whole.1 ∙ at-end all why (subst (λ (l : List ℕ). (read_from start l).refusal ≡ Some why) is h))
  whole-not-refused budget all why whole (inr h) = none-some why (sym whole.1 ∙ h.1)

  -- nor is one that is too long
  pub long-not-refused : (budget : ℕ) (all : List ℕ) (why : JournalRefusal) → IsTooLong budget start all → ¬ (IsJournalRefused budget start all why)
  long-not-refused budget all why long (inl h) = none-some why (sym long.1 ∙ h)
  long-not-refused budget all why long (inr h) = absurd (omega (arith, long.0, h.0))

  -- an input that was taken to its end is whole
  pub whole-taken : (budget : ℕ) (left left_now : Option (List ℕ)) (bytes all : List ℕ) → Consumes left left_now bytes → left ≡ Some all → EndWasRead budget left_now bytes
      → refusal_at_end (read_from start bytes) ≡ None → (bytes ≡ all) × IsWhole budget start all
  whole-taken budget left left_now bytes all source told end none =
      let is : bytes ≡ all = all_taken left left_now all bytes source end.left told in
      (is, subst (IsWhole budget start) is (end.fewer, none))

  -- an input of which as many bytes were taken as may be is too long
  pub long-taken : (budget : ℕ) (left left_now : Option (List ℕ)) (bytes all : List ℕ) → Consumes left left_now bytes → left ≡ Some all → length bytes ≡ budget
      → (read_from start bytes).refusal ≡ None → IsTooLong budget start all
  long-taken budget left left_now bytes all source told full none =
      let begins = begin-them left left_now bytes all source told in
      let all_of : take (budget - length bytes) begins.0 ≡ [] = ap (λ (k : ℕ). take k begins.0) (let is : budget - length bytes ≡ 0 = omega (arith, full) in is) in
      let is : bytes ≡ take budget all =
      sym (append-nil bytes) ∙ ap (λ (l : List ℕ). bytes ++ l) (sym all_of) ∙ sym (take-within budget bytes begins.0 (omega (arith, full))) ∙ ap (take budget) (sym begins.1) in
      (omega (arith, ap length begins.1, length-append bytes begins.0, full), subst (λ (l : List ℕ). (read_from start l).refusal ≡ None) is none)
