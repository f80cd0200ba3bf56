use Rattle.gtfs_tables.proofs.Words.{◌==◌, ◌&&◌, rules}
use Rattle.mt_base.specs.declared.tables.DateRow.{DateRow}
use Rattle.gtfs_tables.proofs.KeyLemmas.{is_eq-pair, key-more}
use Rattle.gtfs_tables.proofs.calendar_dates.DateTable.add.Goals as goal

pub returns-clause-keyed : goal.returns-clause-keyed
returns-clause-keyed c = record {
  services = search rules;
  keys = λ service date.
      key-more (λ (r : DateRow). (r.service == service) && (r.date == date)) c.args.self.now.rows.items c.push.new.self.items _ _ _ _
      (c.in_ok-insert.ensures.updates.0 (service, date)) (c.requires.keyed.keys service date)
      (is_eq-pair c.in_ok-service.service c.args.date service date)
      c.in_ok-push.ensures.items;
}
