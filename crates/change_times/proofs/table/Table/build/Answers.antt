use Rattle.change_times.proofs.Words.{◌∙◌, ◌<◌, All, map, length, subst, sym, ap, filter, Tables, is_looked_at, without_id, from_of}
use Rattle.change_times.proofs.TableLemmas.{IsMade, looked-within, made-kept, made-same}
use Rattle.change_times.proofs.table.Table.build.Goals as goal

made : (c : goal.In_ok-transfers) → IsMade c.args.feed.now c.in_ok-places.places c.in_ok-rows.rows.items c.in_ok-transfers.transfers
made c = record {
  lawful = c.tables-t.ensures.lawful;
  places = c.in_ok-places.ensures ∙ ap (map without_id) (c.as_slice.ensures ∙ ap (λ (t : Tables). t.stops) c.tables-t.ensures.tables);
  kept = c.in_ok-rows.ensures ∙ ap (filter (is_looked_at c.in_ok-places.places)) (c.as_slice-2.ensures ∙ ap (λ (t : Tables). t.transfers) c.tables-t.ensures.tables);
  first = c.in_ok-transfers.ensures.first;
  given = c.in_ok-transfers.ensures.given;
}

pub build-requires-2-clause-from : goal.build-requires-2-clause-from
build-requires-2-clause-from c =
    let places = c.in_ok-places.places in
    subst (λ n. All (λ row. from_of row < n) c.in_ok-rows.rows.items) (sym c.len.ensures) (subst (All (λ row. from_of row < length places)) (sym c.in_ok-rows.ensures) (looked-within places c.as_slice-2.result.now))

pub invariant_of-result : goal.invariant_of-result
invariant_of-result c = made-kept _ _ _ _ _ (made c)

pub returns : goal.returns
returns c = made-same _ _ _ _ _ (made c)
