use Rattle.connection_choices.proofs.Words.{AreTurned, arith, not, eq_by_cmp, connection_cmp, connections_total, exact_connections, Departure, end_cmp, same_map, get-remove, from_sorted, eq_by_cmp_equiv}
use Rattle.connection_choices.proofs.OverrideOrders.{chosen, kept-turned, tied-alike, turned-count, only}
use Rattle.connection_choices.proofs.override_table.OverrideTable.remove.Goals as goal

pub invariant_of-self : goal.invariant_of-self
invariant_of-self c =
    let h = c.self.invariant in
    let k = c.args.connection.now in
    let kept = kept-turned (λ p. not (eq_by_cmp connection_cmp k p)) (λ p. not (eq_by_cmp (end_cmp Departure) k p)) _ _ (λ p. rw (tied-alike Departure k p)) h.choices in
    let choices : AreTurned c.take_out.new.rows.items c.take_out-2.new.rows.items = rw (c.take_out.ensures.items, c.take_out-2.ensures.items) kept in
    record {
      choices = choices;
      count = turned-count _ _ choices;
      room = first_of (rw (c.take_out-2.ensures.room, c.take_out.ensures.room, h.choices.same k, h.room), grind (arith, c.take_out.ensures.room, c.take_out-2.ensures.room, h.choices.same k, h.room));
    }

pub returns-clause-choices : goal.returns-clause-choices
returns-clause-choices c =
    let k = c.args.connection.now in
    same_map connections_total exact_connections _ _ (λ q.
    grind (arith, c.self.view_is, chosen c.self.inside q c.self.invariant, chosen _ q (invariant_of-self c), c.take_out.ensures.items, get-remove connections_total (from_sorted c.self.inside.by_arrival.items) k q, only (λ p. not (eq_by_cmp connection_cmp k p)) q c.self.inside.by_arrival.items, (eq_by_cmp_equiv connections_total).symm k q))
