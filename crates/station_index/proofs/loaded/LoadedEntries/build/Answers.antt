use Rattle.station_index.proofs.Words.{length-map, event_in}
use Rattle.station_index.proofs.SlotLemmas.{rebuilt-all}
use Rattle.station_index.proofs.loaded.LoadedEntries.build.Goals as goal

pub invariant_of-result : goal.invariant_of-result
invariant_of-result c =
    let es = c.args.entries.now in
    let ends = c.in_ok-slot_ends.ensures in
    record {
      ends = rw (c.in_ok-events_in.ensures, length-map es event_in) ends.known;
      ordered = rw (c.in_ok-events_in.ensures, rebuilt-all es _ ends c.requires.dep) c.requires.order;
      few = rw (c.in_ok-events_in.ensures, length-map es event_in) c.requires.few;
    }

pub returns : goal.returns
returns c = rw c.in_ok-events_in.ensures (rebuilt-all c.args.entries.now _ c.in_ok-slot_ends.ensures c.requires.dep)
