-- What a command writes is the same over networks that are alike.
use Rattle.information_service.proofs.Words.{◌≡◌, ◌∙◌, ℕ, ◌+◌, List, [], ◌∷◌, ◌++◌, sym, ap, subst, Line, ServiceState}
use Rattle.delay_model.specs.declared.network.Network.{Network}
use Rattle.information_service.specs.Answering.{AreAnsweredBy, AreFirstAnswers, IsBeginning, IsWhole, LineOutput}
use Rattle.information_service.specs.Networks.{IsSame, IsWrittenAlike, over}

module _ {C : Type 0} {o : LineOutput C} (alike : IsWrittenAlike o) (nw : Network) where
  answers-alike : (lines : List Line) (t : ServiceState) (kept : C) (before : ℕ) (bytes : List ℕ) (now : ServiceState) (kept_now : C)
      → IsSame nw t.network → AreAnsweredBy o.answers t kept before lines bytes now kept_now
      → AreAnsweredBy o.answers (over nw t) kept before lines bytes (over nw now) kept_now × (now.network ≡ t.network)
  answers-alike [] t kept before bytes now kept_now same none = ((none.0, ap (over nw) none.1, none.2), ap (λ (s : ServiceState). s.network) none.1)
  answers-alike (x ∷ xs) t kept before bytes now kept_now same (text, rest, next, kept_next, one, more, split) =
      let keeps = alike.keeps t kept (before + 1) x text next kept_next one in
      let tail = answers-alike xs next kept_next (before + 1) rest now kept_now (subst (IsSame nw) (sym keeps) same) more in
      ((text, rest, over nw next, kept_next, alike.answers nw t kept (before + 1) x text next kept_next same one, tail.0, split), tail.1 ∙ keeps)

  module _ (t : ServiceState) (kept : C) (same : IsSame nw t.network) where
    first-alike : (lines : List Line) (bytes : List ℕ) → AreFirstAnswers o.answers t kept lines bytes → AreFirstAnswers o.answers (over nw t) kept lines bytes
    first-alike lines bytes a = record { now = over nw a.now; kept_now = a.kept_now; answers = (answers-alike lines t kept 0 bytes a.now a.kept_now same a.answers).0 }

    pub beginning-alike : (lines : List Line) (bytes : List ℕ) → IsBeginning o t kept lines bytes → IsBeginning o (over nw t) kept lines bytes
    beginning-alike lines bytes b = record { shown = b.shown; answers = first-alike lines b.shown b.answers; all = b.all ∙ ap (λ head. head ++ b.shown) (sym (alike.begins nw t kept same)) }

    pub whole-over : (lines : List Line) (bytes : List ℕ) → IsWhole o t kept lines bytes → IsWhole o (over nw t) kept lines bytes
    unfolding first-alike
    whole-over lines bytes w =
        let a = w.answers in
        let keeps = (answers-alike lines t kept 0 w.shown a.now a.kept_now same a.answers).1 in
        record {
          shown = w.shown;
          answers = first-alike lines w.shown a;
          all =
              w.all
              ∙ ap (λ head. head ++ (w.shown ++ o.ends a.now a.kept_now)) (sym (alike.begins nw t kept same))
              ∙ ap (λ tail. o.begins (over nw t) kept ++ (w.shown ++ tail)) (sym (alike.ends nw a.now a.kept_now (subst (IsSame nw) (sym keeps) same)));
        }
