use Rattle.dep_order.proofs.Words.{sym, ◌∙◌, ap, None, Some, Departure, entries_of, held, set, set-set}
use Rattle.dep_order.proofs.ChangeLemmas.{freed, retimed-as, with_time-is}
use Rattle.dep_order.proofs.StoredLemmas.{read, some-of, within}
use Rattle.dep_order.proofs.lists.Lists.retime.Goals as goal

pub departure-departure-requires : goal.departure-departure-requires
departure-departure-requires c =
    let l = c.args.self.now in
    let d = some-of (held (entries_of l) c.args.number) c.requires.there in
    within l c.args.number d.0 d.1

pub set_time-requires : goal.set_time-requires
set_time-requires c =
    let l = c.args.self.now in
    let d = some-of (held (entries_of l) c.args.number) c.requires.there in
    within l c.args.number d.0 d.1

pub keeps_place-requires : goal.keeps_place-requires
keeps_place-requires c =
    let l = c.args.self.now in
    let d = some-of (held (entries_of l) c.args.number) c.requires.there in
    let x = read l c.args.number d.0 c.requires.kept d.1 in
    record { kept = c.requires.kept; there = within l c.args.number d.0 d.1; before = x.previous.ends; after = x.next.ends }

pub returns-then-keeps_place : goal.returns-then-keeps_place
returns-then-keeps_place c =
    let l = c.args.self.now in
    let d = some-of (held (entries_of l) c.args.number) c.requires.there in
    let k = c.keeps_place.ensures in
    let stays = c.if-keeps_place.true in
    let x = retimed-as l c.set_time.new.self c.args.number d.0 c.departure-departure.result c.args.time c.departure-departure.ensures c.set_time.ensures c.requires.kept d.1 (k.bucket stays) (k.before stays) (k.after stays) in
    record { kept = x.0; entries = x.1; onwards = x.2 }

pub insert-requires : goal.insert-requires
insert-requires c =
    let l = c.args.self.now in
    let d = some-of (held (entries_of l) c.args.number) c.requires.there in
    let same = c.departure-departure.ensures ∙ (read l c.args.number d.0 c.requires.kept d.1).departure in
    let x = freed l c.remove.new.self c.args.number d.0 c.departure-departure.result c.requires.kept d.1 same c.remove.ensures.entries in
    record { kept = c.remove.ensures.kept; free = x.0; new_call = x.1; departs = ap (λ (e : Departure). e.key.dep) c.departure-departure.ensures }

pub returns-else-keeps_place : goal.returns-else-keeps_place
returns-else-keeps_place c =
    let l = c.args.self.now in
    let m = c.args.number in
    let e : Departure = record (c.departure-departure.result) { time = c.args.time } in
    let d = some-of (held (entries_of l) m) c.requires.there in
    let same = c.departure-departure.ensures ∙ (read l m d.0 c.requires.kept d.1).departure in
    record {
      kept = c.insert.ensures.kept;
      entries = c.insert.ensures.entries ∙ ap (λ es. set es m (Some e)) c.remove.ensures.entries
          ∙ set-set (entries_of l) m None (Some e)
          ∙ sym (with_time-is (entries_of l) m c.args.time d.0 c.departure-departure.result d.1 same);
      onwards = c.insert.ensures.onwards ∙ c.remove.ensures.onwards;
    }
