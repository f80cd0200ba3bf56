use Rattle.station_index.proofs.Words.{◌≡◌, ℕ, ◌+◌, List, length, arith, sym, ◌∙◌, subst, Entry, LoadedEvent, is_in_range, IsRangeAt, at_read, entry_of}
use Rattle.station_index.proofs.EntryLemmas.{IsBefore}
use Rattle.station_index.proofs.FindLemmas.{find-none, find-some, found-ordered, not-true, not-false}
use Rattle.station_index.proofs.loaded.LoadedEntries.find.Goals as goal
use Rattle.station_index.proofs.loaded.LoadedEntries.find.Goals.{else-place-events-via-then-place-events+else-is_not_before, else-place-events-via-else-place-events}

-- the range at a time by another name of it
at-time : (e : Entry) (es : List Entry) (first : ℕ) (xs : List LoadedEvent) (t : ℕ) → t ≡ e.time → IsRangeAt (is_in_range e.stop e.dep t t) es first (first + length xs) → IsRangeAt (is_in_range e.stop e.dep e.time e.time) es first (first + length xs)
at-time e es first xs t is h = subst (λ t. IsRangeAt (is_in_range e.stop e.dep t t) es first (first + length xs)) is h

pub place_of-place-requires : goal.place_of-place-requires
place_of-place-requires c =
    let p = c.part-first.ensures in found-ordered c.args.entry.now c.args.self.now c.part-first.result.0 c.part-first.result.1.now p.order (at-time c.args.entry.now c.args.self.now c.part-first.result.0 c.part-first.result.1.now c.from-time.result (cc (c.from-time.ensures, c.seconds.ensures.value)) p.range) p.events

pub overflow_add-result : goal.overflow_add-result
overflow_add-result c = record { fits = omega (arith, c.part-first.ensures.few, c.part-first.ensures.range.within) }

pub returns-then-is_not_before-clause-place : goal.returns-then-is_not_before-clause-place
returns-then-is_not_before-clause-place c =
    let p = c.part-first.ensures in
    find-some c.args.entry.now c.args.self.now c.part-first.result.0 c.part-first.result.1.now p.order (at-time c.args.entry.now c.args.self.now c.part-first.result.0 c.part-first.result.1.now c.from-time.result (cc (c.from-time.ensures, c.seconds.ensures.value)) p.range) p.events c.place_of-place.result c.index-events-place.result c.place_of-place.ensures.place (omega arith) c.index-events-place.is
    (not-true _ (sym c.is_not_before.ensures ∙ c.if-is_not_before.true))

pub returns-clause-place : goal.returns-clause-place
returns-clause-place c =
    let e = c.args.entry.now in
    let xs = c.part-first.result.1.now in
    let p = c.part-first.ensures in
    let i = c.place_of-place.result in
    find-none e c.args.self.now c.part-first.result.0 xs p.order (at-time c.args.entry.now c.args.self.now c.part-first.result.0 c.part-first.result.1.now c.from-time.result (cc (c.from-time.ensures, c.seconds.ensures.value)) p.range) p.events i c.place_of-place.ensures.place c.place_of-place.ensures.within
    (λ l. elim c.else-place-events.branch [
      | else-place-events-via-then-place-events+else-is_not_before w ↦
          at_read xs (λ x. IsBefore e (entry_of e.stop e.dep x)) i w.index-events-place.result l w.index-events-place.is (not-false _ (sym w.is_not_before.ensures ∙ w.if-is_not_before.false))
      | else-place-events-via-else-place-events w ↦ absurd (omega arith)
    ])
