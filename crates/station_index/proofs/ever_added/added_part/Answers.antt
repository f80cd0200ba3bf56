use Rattle.station_index.proofs.Words.{sym, ◌∙◌}
use Rattle.station_index.proofs.AddedLemmas.{none-ever_added}
use Rattle.station_index.proofs.ever_added.added_part.Goals as goal

pub returns-else-is_ever_added : goal.returns-else-is_ever_added
returns-else-is_ever_added c = c.range.ensures ∙
    none-ever_added c.args.ever_added.now c.args.stop c.args.dep c.args.lo c.args.hi c.args.added.now.items c.requires.ever_added (sym c.is_ever_added.ensures ∙ c.if-is_ever_added.false)
