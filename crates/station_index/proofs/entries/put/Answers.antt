use Rattle.station_index.proofs.Words.{◌∙◌}
use Rattle.station_index.proofs.PlaceLemmas.{with-at}
use Rattle.station_index.proofs.entries.put.Goals as goal

pub returns-clause-items : goal.returns-clause-items
returns-clause-items c = c.insert.ensures.items ∙ with-at c.args.entry c.args.entries.now.items c.place-place.result c.place-place.ensures.within c.place-place.ensures.place
