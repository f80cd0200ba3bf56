use Rattle.gtfs_tables.proofs.Words.{◌∙◌, Some, ap, btree_map_updates_text, string_bytes, number_of_id}
use Rattle.gtfs_tables.proofs.IdLemmas.{adds_id}
use Rattle.gtfs_tables.proofs.ids.Ids.add.Goals as goal

pub returns : goal.returns
returns c = λ names are next.
    let text = c.in_ok-key.ensures.ok in
    let before = c.in_ok-insert.ensures.old ∙ ap (number_of_id c.args.self.now) text ∙ are.found c.args.id.now in
    let updates = btree_map_updates_text (string_bytes c.in_ok-key.key) c.args.self.now.numbers c.insert.new.self (Some c.args.number) c.in_ok-insert.ensures.updates in
    adds_id c.is_none.result c.args.number c.args.id.now names c.in_ok-insert.field-0 (record { numbers = c.insert.new.self }) c.is_none.ensures
    before next are.distinct (λ name. rw (text, are.found name) at (updates name))
