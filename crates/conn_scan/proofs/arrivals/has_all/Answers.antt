use Rattle.conn_scan.proofs.Words.{◌≡◌, ◌∷◌, true, false, length, sym, ◌∙◌, ap, subst, All, All-tail, HasSameRoom, IsWithin}
use Rattle.journey_laws.specs.Checked.{is_early}
use Rattle.conn_scan.specs.Arrivals.{has_all, is_missed, passed}
use Rattle.conn_scan.proofs.PassedLemmas.{all-passed, room-passed, missed-none, missed-there}
use Rattle.conn_scan.proofs.RoomLemmas.{room-then}
use Rattle.conn_scan.proofs.arrivals.has_all.Goals as goal
use Rattle.conn_scan.proofs.arrivals.has_all.Goals.{else-is_some-via-then-is_some+else-is_lacking, else-is_some-via-else-is_some}

pub loop-d-preserved : goal.loop-d-preserved
loop-d-preserved c =
    let n = length c.args.changes.now.stops in
    let best = c.args.best.now in
    let d = c.in-Some.d in
    let k = c.loop-d.known in
    let rest = c.next.new.self in
    let split : c.loop-d.d-iterator ≡ d ∷ rest = c.in-Some.ensures.steps in
    let early : is_early best d.time ≡ true = sym c.is_early.ensures ∙ c.if-not-is_early.false in
    let missed : is_missed n best d k ≡ false = elim c.else-is_some.branch [
      | else-is_some-via-then-is_some+else-is_lacking w ↦ missed-there n best d k (sym w.is_lacking.ensures ∙ w.if-is_lacking.false)
      | else-is_some-via-else-is_some w ↦ missed-none n best d k c.boarding-boarded.result c.boarding-boarded.ensures.boarded (sym c.is_some.ensures ∙ w.if-is_some.false)
    ] in
    let stays : c.stay.new.known ≡ passed d k = rw c.boarding-boarded.ensures.boarded at c.stay.ensures in (
      ap (has_all n best rest) stays ∙ sym (ap (λ ds. has_all n best ds k) split ∙ all-passed n best d rest k early missed) ∙ c.loop-d.invariant.0,
      All-tail (IsWithin n (length c.args.order.now.entries)) d rest (subst (All (IsWithin n (length c.args.order.now.entries))) split c.loop-d.invariant.1),
      room-then c.args.known.now k c.stay.new.known c.loop-d.invariant.2 (subst (HasSameRoom k) (sym stays) (room-passed d k)),
    )
