use Rattle.schedule_build.proofs.Words.{rules, ◌∙◌, ap, answers_always, IsNonDecreasingBy-from_sort, filter, trip_of, tie}
use Rattle.feed_tables.proofs.TripRowLemmas.{rows-stay}
use Rattle.schedule_build.proofs.groups.grouped.Goals as goal

pub returns : goal.returns
returns c =
    let given = rw c.in_ok-all.ensures.items at c.in_ok-extend_from_slice.ensures.items in
    let answers = answers_always _ _ _ (λ f a r g h. search rules) in
    record {
      moved = rw given at c.in_ok-sort_by_key.ensures.permutation;
      rises = IsNonDecreasingBy-from_sort trip_of _ (c.in_ok-sort_by_key.ensures.sorted trip_of answers);
      same = rows-stay c.args.rows.now _ (λ z. c.in_ok-sort_by_key.ensures.stable trip_of answers z ∙ ap (filter (tie trip_of z)) given);
    }
