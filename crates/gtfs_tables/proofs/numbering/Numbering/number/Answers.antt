use Rattle.gtfs_tables.proofs.Words.{Some, sym, arith, rules, btree_map_updates_text, string_bytes}
use Rattle.gtfs_tables.proofs.LawNames.{distinct-more}
use Rattle.gtfs_tables.proofs.NumberLemmas.{number_from-more}
use Rattle.gtfs_tables.proofs.numbering.Numbering.number.Goals as goal

pub returns-clause-numbered : goal.returns-clause-numbered
returns-clause-numbered c =
    let none = sym c.in_default.ensures in
    record {
      found = λ name.
          let updates = btree_map_updates_text (string_bytes c.in_ok-key.key) c.args.self.now.numbers c.insert.new.self (Some c.len-number.result) c.in_ok-insert.ensures.updates name in
          number_from-more name c.args.name.now c.args.self.now.names.items c.push.new.self.items c.len-number.result _ _ (rw c.in_ok-key.ensures.ok at updates) (c.requires.numbered.found name) none (search rules) (grind arith);
      distinct = grind (arith, distinct-more c.args.name.now c.args.self.now.names.items c.requires.numbered.distinct none);
    }
