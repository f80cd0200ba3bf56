use Rattle.connection_choices.proofs.Words.{◌≡◌, ◌≤◌, length, not, arith, refl, Connection, Override, connections_total, exact_connections, names_event, same_map, get-retain_keys, from_sorted, connection_cmp, ap, sym, Equal}
use Rattle.std.proofs.lemmas.List.Filters.{length-filter_both}
use Rattle.connection_choices.proofs.OverrideOrders.{chosen, turned-count, kept-turned, sorted_len, only}
use Rattle.connection_choices.proofs.override_table.OverrideTable.remove_all.Goals as goal

pub invariant_of-self : goal.invariant_of-self
invariant_of-self g c =
    let stays = λ (p : Connection). not (names_event (g.E.EventSet.holds c.args.events.now) p) in
    let turned = kept-turned stays stays _ _ (λ p. refl) c.self.invariant.choices in
    grind (arith, turned, turned-count, c.self.invariant, c.retain.ensures, c.retain-2.ensures)

pub returns-clause-choices : goal.returns-clause-choices
returns-clause-choices g c = same_map connections_total exact_connections _ _ (λ q.
    let stays = λ (p : Connection). not (names_event (g.E.EventSet.holds c.args.events.now) p) in
    let alike : (x : Connection) → connection_cmp q x ≡ Equal → stays x ≡ stays q = λ x u. ap stays (sym (exact_connections q x u)) in
    grind (arith, c.self.view_is, chosen c.self.inside q c.self.invariant, chosen _ q (invariant_of-self g c), c.retain.ensures.items, get-retain_keys {R = connection_cmp} (from_sorted c.self.inside.by_arrival.items) stays q alike, only stays q c.self.inside.by_arrival.items))

pub returns-clause-spare : goal.returns-clause-spare
returns-clause-spare g c =
    let es = c.self.inside.by_arrival.items in
    let stays = λ (row : Connection × Override). not (names_event (g.E.EventSet.holds c.args.events.now) row.0) in
    let fewer : length c.retain.new.rows.items ≤ length es = omega (arith, ap length c.retain.ensures.items, length-filter_both stays (λ row. not (stays row)) (λ row. refl) es) in
    let before = sorted_len es c.self.invariant.choices.sorted in
    let after = sorted_len c.retain.new.rows.items (invariant_of-self g c).choices.sorted in
    rw (← c.self.view_is) (omega (arith, c.retain.ensures.room, fewer, before, after))
