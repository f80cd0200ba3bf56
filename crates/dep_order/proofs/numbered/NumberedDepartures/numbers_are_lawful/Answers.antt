use Rattle.dep_order.proofs.StepLemmas.{all-depart}
use Rattle.dep_order.proofs.numbered.NumberedDepartures.numbers_are_lawful.Goals as goal

pub returns-clause-departs : goal.returns-clause-departs
returns-clause-departs c = rw (← c.self.view_is) (all-depart c.self.inside.lists)
