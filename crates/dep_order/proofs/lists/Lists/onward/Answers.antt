use Rattle.dep_order.proofs.Words.{arith, length-map, onward_in}
use Rattle.dep_order.proofs.StepLemmas.{onward-read}
use Rattle.dep_order.proofs.lists.Lists.onward.Goals as goal

pub hot-hot-requires : goal.hot-hot-requires
hot-hot-requires c = omega (arith, c.requires, length-map c.args.self.now.slots onward_in)

pub returns : goal.returns
returns c = onward-read c.args.self.now.slots c.args.number c.hot-hot.result c.requires c.hot-hot.ensures
