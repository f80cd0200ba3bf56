use Rattle.station_index.proofs.Words.{arith, not, ap, sym, ◌∙◌, ◌≡◌, Entry, Indexed, entry_at, is_same_entry, without_entry, kept, merged, All-filter}
use Rattle.station_index.proofs.OrderLemmas.{filter-ascends}
use Rattle.station_index.proofs.MergeLemmas.{filter-merged}
use Rattle.station_index.proofs.AddedLemmas.{IsEverAdded}
use Rattle.station_index.proofs.index.StationIndex.remove.Goals as goal

-- what is left are all entries but this one
left : (c : goal.After-take_out) → merged (kept c.self.inside.loaded c.clear.new.live.items) c.take_out.new.entries.items ≡ without_entry (entry_at c.args.stop c.args.time c.args.n) (merged (kept c.self.inside.loaded c.self.inside.live.items) c.self.inside.added.items)
left c =
    let a = c.self.inside in
    let e = entry_at c.args.stop c.args.time c.args.n in
    let cleared = rw c.entry-entry.ensures at c.clear.ensures.kept in
    rw (cleared, c.take_out.ensures.items, c.entry-entry.ensures) (sym (filter-merged (λ x. not (is_same_entry x e)) (kept a.loaded a.live.items) a.added.items c.self.invariant.ordered))

pub invariant_of-self : goal.invariant_of-self
invariant_of-self c =
    let a = c.self.inside in
    let e = entry_at c.args.stop c.args.time c.args.n in
    let p = λ (x : Entry). not (is_same_entry x e) in
    record {
      loaded = c.self.invariant.loaded;
      flags = c.clear.ensures.flags ∙ c.self.invariant.flags;
      added = rw (c.take_out.ensures.items, c.entry-entry.ensures) (filter-ascends p a.added.items c.self.invariant.added);
      ever_added = rw (c.take_out.ensures.items, c.entry-entry.ensures) (All-filter p (IsEverAdded a.ever_added.items) a.added.items c.self.invariant.ever_added);
      ordered = rw (left c) (filter-ascends p _ c.self.invariant.ordered);
      room = omega (arith, c.self.invariant.room, c.take_out.ensures.room);
    }

pub returns : goal.returns
returns c = rw (← c.self.view_is) (ap (λ xs. let r : Indexed = record { entries = xs; spare = c.self.inside.spare } in r) (left c))
