use Rattle.conn_scan.proofs.Words.{◌≡◌, ◌∷◌, length, sym, ◌∙◌, ap, subst, All, All-tail, cond-false, departed, is_there_by, scanned, HasSameRoom, IsWithin}
use Rattle.conn_scan.proofs.RoomLemmas.{room-departed, room-then}
use Rattle.conn_scan.proofs.scan.scan.Goals as goal

pub loop-d-preserved : goal.loop-d-preserved
loop-d-preserved c =
    let t = c.args.changes.now in
    let q = c.args.asked.now.query in
    let d = c.in-Some.d in
    let k = c.loop-d.known in
    let rest = c.next.new.self in
    let split : c.loop-d.d-iterator ≡ d ∷ rest = c.in-Some.ensures.steps in
    let late = sym c.is_there_by.ensures ∙ c.if-is_there_by.false in (
      ap (scanned t q rest) c.depart.ensures
          ∙ sym (ap (λ ds. scanned t q ds k) split ∙ cond-false (is_there_by k.best d.time) k (scanned t q rest (departed t q d k)) late)
          ∙ c.loop-d.invariant.0,
      All-tail (IsWithin (length t.stops) (length c.args.order.now.entries)) d rest (subst (All (IsWithin (length t.stops) (length c.args.order.now.entries))) split c.loop-d.invariant.1),
      room-then c.args.known.now k c.depart.new.known c.loop-d.invariant.2 (subst (HasSameRoom k) (sym c.depart.ensures) (room-departed t q d k)),
    )
