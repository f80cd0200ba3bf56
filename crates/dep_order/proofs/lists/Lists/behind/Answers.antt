use Rattle.dep_order.proofs.GapLemmas.{beside-within, guided-at}
use Rattle.dep_order.proofs.lists.Lists.behind.Goals as goal

pub hot-hot-requires : goal.hot-hot-requires
hot-hot-requires c = beside-within c.args.self.now c.args.departure.now c.args.ends.bucket _ (c.leads.ensures c.if-leads.true)

pub returns-then-leads : goal.returns-then-leads
returns-then-leads c =
    guided-at c.args.self.now c.args.departure.now c.args.ends _ c.hot-hot.result c.requires.kept c.requires.between c.requires.followed (c.leads.ensures c.if-leads.true) c.hot-hot.ensures
