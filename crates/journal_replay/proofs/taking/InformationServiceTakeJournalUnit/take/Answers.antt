use Rattle.std.proofs.Common.{◌≡◌, ◌≢◌, ℕ, true, false, nat_eq, not, sym, subst, arith}
use Rattle.std.proofs.lemmas.Bool.Decides.{nat_tests}
use Rattle.information_service.specs.ServiceState.{ServiceState}
use Rattle.journal_replay.specs.Taking.{IsService, IsWireTaken}
use Rattle.journal_replay.proofs.Accepting.{taken-by}
use Rattle.journal_replay.proofs.taking.InformationServiceTakeJournalUnit.take.Goals as goal

differs : (a b n m : ℕ) → not (nat_eq a b) ≡ true → a ≡ n → b ≡ m → n ≢ m
differs a b n m is x y = grind (arith, nat_tests)

agrees : (a b n m : ℕ) → not (nat_eq a b) ≡ false → a ≡ n → b ≡ m → n ≡ m
agrees a b n m is x y = grind (arith, nat_tests)

pub returns-clause-taken : goal.returns-clause-taken
returns-clause-taken c = λ s before is.
    let now = c.count.ensures in
    let then = c.count-before.ensures in
    subst (λ (t : ServiceState). IsWireTaken IsService t before c.args.wire c.answer_said.new.self (not (nat_eq c.count.result c.count-before.result))) (sym is)
    (taken-by c.args.self.now c.answer_said.new.self c.args.wire before _ (λ grew. differs _ _ _ _ grew now then) (λ stayed. agrees _ _ _ _ stayed now then) (c.in_ok-answer_said.ensures).next)
