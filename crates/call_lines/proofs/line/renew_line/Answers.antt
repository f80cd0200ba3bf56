use Rattle.call_lines.proofs.Words.{◌≡◌, ◌-◌, suc, ℕ, arith, refl, subst, get_or-set_same, slice_get, slice_get-get_or, Some, next_report_of}
use Rattle.call_lines.proofs.RenewLemmas.{IsPartlyRenewed, all-renewed, inside, goes-on, stays-below, known-rest, from-known}
use Rattle.call_lines.proofs.line.renew_line.Goals as goal

pub loop-place-init : goal.loop-place-init
loop-place-init c = (refl, λ train first to len k. (from-known k, λ j l. refl))

pub returns-clause-renewed : goal.returns-clause-renewed
returns-clause-renewed c = λ train first to len k _.
    let none : c.loop-place.place ≡ 0 = omega arith in all-renewed k.line _ _ _ (rw none at c.loop-place.invariant.1 train first to len k).0

pub returns-then-eq-clause-renewed : goal.returns-then-eq-clause-renewed
returns-then-eq-clause-renewed c = λ train first to len k knows.
    let l = c.loop-place in
    let w = l.invariant.1 train first to len k in
    let x = c.index.result.now in
    let more : l.place ≡ suc (l.place - 1) = omega arith in
    let part = subst (λ (n : ℕ). IsPartlyRenewed train len n k.line.at c.args.calls.now.items l.calls.items l.slot l.next_report) more w.0 in
    let there : slice_get l.calls.items l.slot ≡ Some x = grind (arith, c.index.ensures, slice_get-get_or l.calls.items l.slot x (omega arith)) in
    let noted : next_report_of x ≡ l.next_report = grind (arith, c.next_report.ensures, c.eq.ensures, c.if-eq.true, c.if-eq.ensures) in
    known-rest k.line knows (l.place - 1) l.slot l.calls.items l.next_report x part (λ j m. w.1 j (omega arith)) (omega arith) there noted

pub loop-place-preserved-then-slot-len : goal.loop-place-preserved-then-slot-len
loop-place-preserved-then-slot-len c =
    let l = c.loop-place in
    let y = c.renew-next_report.new.self in
    let e = c.renew-next_report.ensures in
    let leads : c.before-slot.result ≡ y.before = grind (arith, c.before-slot.ensures, c.index-then-slot-len.ensures, get_or-set_same l.calls.items l.slot y c.index-then-slot-len.result.now (omega arith)) in (
      l.invariant.0,
      λ train first to len k.
          let w = l.invariant.1 train first to len k in
          let stays = stays-below k.line (l.place - 1) l.slot y l.calls.items (omega (arith, w.0.within)) (w.0.slot_is (omega arith)) (λ j m. w.1 j (omega arith)) in
          (goes-on k.line w.0 (l.place - 1) (omega arith) c.index_mut.ensures.value e.rest e.next e.report leads, stays),
    )

pub loop-place-preserved : goal.loop-place-preserved
loop-place-preserved c =
    let l = c.loop-place in
    (l.invariant.0, λ train first to len k. absurd (omega (arith, inside k.line (l.invariant.1 train first to len k).0 (l.place - 1) (omega arith))))
