use Rattle.change_times.proofs.Words.{◌+◌, ◌<◌, List, length, subst, sym, arith, All-weaker, All-contains, Contains, IsNonDecreasingBy, TransferRow, from_of, HaveStarts}
use Rattle.change_times.proofs.transfers.Transfers.build.Goals as goal

pub starts-requires-clause-order : goal.starts-requires-clause-order
starts-requires-clause-order c =
    subst (IsNonDecreasingBy from_of) (sym c.as_slice.ensures.value) c.in_ok-kept.ensures.order.from

pub invariant_of-result : goal.invariant_of-result
invariant_of-result c =
    let rows = c.args.rows.items in
    let starts = c.in_ok-starts.starts.items in
    record {
      by_pair = c.in_ok-kept.ensures.order;
      once = c.in_ok-kept.ensures.once;
      starts = subst (λ (xs : List TransferRow). HaveStarts xs starts) c.as_slice.ensures.value c.in_ok-starts.ensures.starts;
      from = All-weaker (Contains rows) (λ row. from_of row + 1 < length starts) (λ row h. let l = All-contains (λ r. from_of r < c.args.places) rows row c.requires.from h in omega (arith, l, c.in_ok-starts.ensures.count)) c.in_ok-kept.kept.items c.in_ok-kept.ensures.given;
    }
