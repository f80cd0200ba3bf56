use Rattle.schedule_build.proofs.Words.{arith, bytes_eq}
use Rattle.schedule_build.proofs.NumberLemmas.{is_found}
use Rattle.schedule_build.proofs.name_list.NameList.find.Goals as goal

pub returns-clause-there : goal.returns-clause-there
returns-clause-there c =
    grind (arith, is_found (λ n. bytes_eq n c.args.name.now) 0 c.args.self.now, c.find.ensures, c.deref.ensures.value, c.self.view_is)
