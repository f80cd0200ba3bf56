-- What is written for `times` is the replies to its lines, and then the table.
use Rattle.information_service.proofs.Words.{◌≡◌, ◌∙◌, ℕ, ◌+◌, List, [], ◌∷◌, ◌++◌, length, refl, sym, ap, subst, arith, append_assoc, append-nil, Line, ServiceState, after_line, table, AreReplies, IsOutput, IsTextAfter}
use Rattle.std.proofs.lemmas.List.{length-append}
use Rattle.information_service.specs.Answering.{AreAnsweredBy, IsBeginning, IsWhole}
use Rattle.information_service.specs.ServiceState.{service_after}
use Rattle.information_service.specs.TimesOutput.{times_output}
use Rattle.information_service.proofs.OneMore.{line-after, reply_is}

module _ (first : ServiceState) where
  abbrev after : List Line → ServiceState
  after = service_after first.network first.names first.state

  -- the answers to lines behind others are the replies to them
  answers-are : (before lines : List Line) (t : ServiceState) (kept : Unit {0}) (n : ℕ) (bytes : List ℕ) (now : ServiceState) (kept_now : Unit {0}) → t ≡ after before → n ≡ length before
      → AreAnsweredBy times_output.answers t kept n lines bytes now kept_now → AreReplies first.network first.names first.state before lines bytes × (now ≡ after (before ++ lines))
  answers-are before [] t kept n bytes now kept_now stands number none = (none.0, none.1 ∙ stands ∙ ap after (sym (append-nil before)))
  answers-are before (x ∷ xs) t kept n bytes now kept_now stands number (text, rest, next, kept_next, one, more, split) =
      let left : next ≡ after (before ++ x ∷ []) = one.leaves ∙ ap (λ s. after_line s x) stands ∙ line-after first.network first.names first.state before x in
      let tail = answers-are (before ++ x ∷ []) xs next kept_next (n + 1) rest now kept_now left (omega (arith, number, length-append before (x ∷ []))) more in
      let own = reply_is first t next before x (n + 1) one.reply stands (omega (arith, number)) one.is_reply one.leaves in
      ((text, rest, subst (IsTextAfter first.network first.names first.state before x) (sym one.text_is) own, tail.0, split), tail.1 ∙ ap after (append_assoc before (x ∷ []) xs))

  module _ (none : first.count ≡ 0) where
    at-first : first ≡ after []
    at-first = ap (λ (n : ℕ). record { network = first.network; state = first.state; count = n; names = first.names }) none

    -- a beginning of what is written is the replies to the first lines
    pub beginning-replies : (kept : Unit {0}) (lines : List Line) (bytes : List ℕ) → IsBeginning times_output first kept lines bytes → AreReplies first.network first.names first.state [] lines bytes
    beginning-replies kept lines bytes b = rw b.all (answers-are [] lines first kept 0 b.shown b.answers.now b.answers.kept_now at-first refl b.answers.answers).0

    -- the whole of it is an output
    pub whole-output : (kept : Unit {0}) (lines : List Line) (bytes : List ℕ) → IsWhole times_output first kept lines bytes → IsOutput first.network first.names first.state lines bytes
    whole-output kept lines bytes w =
        let are = answers-are [] lines first kept 0 w.shown w.answers.now w.answers.kept_now at-first refl w.answers.answers in
        record { shown = w.shown; replies = are.0; all = w.all ∙ ap (λ (t : ServiceState). w.shown ++ table t.network t.names t.state) are.1 }
