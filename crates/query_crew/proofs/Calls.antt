-- Calls of a line reader one after the other, as one call.
use Rattle.query_crew.proofs.Words.{◌≡◌, ◌∙◌, List, ◌++◌, Option, true, sym, ap, subst, append_assoc, arith, inl, inr, length-append, ℕ, Line, Reader, GivesNext}
use Rattle.std.proofs.lemmas.Bool.{cases_Bool}
use Rattle.std.specs.Io.KnownBytes.{IsAtEnd}
use Rattle.mt_io.specs.Reader.{ahead}
use Rattle.mt_io.proofs.Gives.{consumes_more}

-- what two calls take and answer, where the second reads nothing once the end was read
pub gives-both : (a b c : Reader) (left mid now : Option (List ℕ)) (xs ys : List Line)
    → GivesNext a b left mid xs → GivesNext b c mid now ys → (b.ended ≡ true → now ≡ mid) → GivesNext a c left now (xs ++ ys)
gives-both a b c left mid now xs ys first next same =
    let one = first.1 in
    let two = next.1 in (
      first.0 ++ next.0,
      record {
        source = consumes_more left mid now first.0 next.0 one.source two.source;
        taken = omega (arith, one.taken, two.taken, length-append first.0 next.0);
        budget = two.budget ∙ one.budget;
        within = λ h. two.within (one.within h);
        lines_ahead = λ rest ended can.
            ap (λ (l : List ℕ). ahead a l ended) (append_assoc first.0 next.0 rest)
            ∙ one.lines_ahead (next.0 ++ rest) ended (λ is. let stays = two.still_ended is in ((λ k. stays.1 k ++ (can stays.0).0 k), (can stays.0).1))
            ∙ ap (λ (l : List Line). xs ++ l) (two.lines_ahead rest ended can)
            ∙ sym (append_assoc xs ys (ahead c rest ended));
        still_ended = λ is. let mids = one.still_ended is in let ends = two.still_ended mids.0 in (ends.0, (λ k. mids.1 k ++ ends.1 k));
        end = λ not_yet is. elim (cases_Bool b.ended) [ inl was ↦ subst IsAtEnd (sym (same was)) (one.end not_yet was) | inr not_mid ↦ two.end not_mid is ];
      },
    )
