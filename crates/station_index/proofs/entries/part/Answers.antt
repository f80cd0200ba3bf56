use Rattle.station_index.proofs.Words.{is_in_range, ◌∙◌}
use Rattle.station_index.proofs.PlaceLemmas.{range-is}
use Rattle.station_index.proofs.entries.part.Goals as goal

pub returns : goal.returns
returns c = c.range.ensures ∙ range-is (is_in_range c.args.stop c.args.dep c.args.lo c.args.hi) c.args.entries.now.items _ _ c.bounds-first.ensures
