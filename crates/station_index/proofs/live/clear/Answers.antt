use Rattle.station_index.proofs.Words.{sym}
use Rattle.station_index.proofs.KeptLemmas.{kept-pass}
use Rattle.station_index.proofs.PlaceLemmas.{clear-there, differs}
use Rattle.station_index.proofs.live.clear.Goals as goal

pub returns-in-Some-clause-kept : goal.returns-in-Some-clause-kept
returns-in-Some-clause-kept c =
    let facts = c.in-Some.ensures.place in
    clear-there c.args.entry.now c.args.loaded.now c.args.live.now.items c.in-Some.place c.in-Some.ensures.order facts.0 facts.1

pub returns-in_default-clause-kept : goal.returns-in_default-clause-kept
returns-in_default-clause-kept c =
    let missed = rw c.in_default.is at c.find.ensures.place in
    sym (kept-pass (differs c.args.entry.now) c.args.loaded.now c.args.live.now.items missed)
