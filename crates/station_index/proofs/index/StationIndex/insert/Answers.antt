use Rattle.station_index.proofs.Words.{◌≢◌, ◌-◌, arith, ap, Indexed, entry_at, kept, merged}
use Rattle.station_index.proofs.OrderLemmas.{with-ascends, absent-differs}
use Rattle.station_index.proofs.MergeLemmas.{merged-with, merged-second}
use Rattle.station_index.proofs.AddedLemmas.{with-added}
use Rattle.station_index.proofs.index.StationIndex.insert.Goals as goal

pub invariant_of-self : goal.invariant_of-self
invariant_of-self c =
    let a = c.self.inside in
    let es = kept a.loaded a.live.items in
    let fs = a.added.items in
    let e = entry_at c.args.stop c.args.time c.args.n in
    let spare = rw (← c.self.view_is) at c.requires.spare in
    let absent = rw (← c.self.view_is) at c.requires.absent in
    let apart = absent-differs e (merged es fs) absent in
    record {
      loaded = c.self.invariant.loaded;
      flags = c.self.invariant.flags;
      added = rw (c.put.ensures.items, c.entry-entry.ensures) (with-ascends e fs c.self.invariant.added (merged-second (λ x. x ≢ e) es fs apart));
      ever_added = rw (c.note_added.ensures, c.put.ensures.items, c.entry-entry.ensures) (with-added a.ever_added.items e fs c.self.invariant.ever_added);
      ordered = rw (c.put.ensures.items, c.entry-entry.ensures, merged-with e es fs) (with-ascends e (merged es fs) c.self.invariant.ordered apart);
      room = omega (arith, spare, c.self.invariant.room, c.put.ensures.room);
    }

pub returns : goal.returns
returns c =
    let a = c.self.inside in
    let es = kept a.loaded a.live.items in
    let e = entry_at c.args.stop c.args.time c.args.n in
    rw (← c.self.view_is, c.put.ensures.items, c.entry-entry.ensures) (ap (λ xs. let r : Indexed = record { entries = xs; spare = a.spare - 1 } in r) (merged-with e es a.added.items))
