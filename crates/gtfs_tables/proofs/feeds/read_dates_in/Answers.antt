use Rattle.gtfs_tables.proofs.Words.{Bool, cond, ◌≡◌, [], arith, IfOk-weaker, Contents, absent, dates_in, holds, records_of}
use Rattle.gtfs_tables.specs.declared.faults.Table.TheVariants as table
use Rattle.gtfs_tables.specs.Feeds.{Content, is_absent}
use Rattle.gtfs_tables.proofs.FeedLemmas.{all_records}
use Rattle.gtfs_tables.proofs.feeds.read_dates_in.Goals as goal

pub returns-clause-made : goal.returns-clause-made
unfolding dates_in
returns-clause-made g c = grind (arith, c.read_calendar_dates.ensures.rows (records_of c.in-Some.text.items) (all_records _ _ c.deref.ensures.value))

-- a feed with this calendar.txt, or none, and this calendar_dates.txt
abbrev calendars : Bool → Content → Contents
calendars no_calendar dates table.Calendar = cond no_calendar absent (holds [])
calendars no_calendar dates other = dates

as-told : (no_calendar : Bool) (dates : Content) → is_absent (calendars no_calendar dates table.Calendar) ≡ no_calendar
as-told no_calendar dates = grind arith

pub returns-in_default-clause-some : goal.returns-in_default-clause-some
unfolding dates_in
returns-in_default-clause-some g c = (calendars c.args.no_calendar absent, grind arith, as-told c.args.no_calendar absent)

pub returns-clause-some : goal.returns-clause-some
unfolding dates_in
returns-clause-some g c =
    let dates = holds (records_of c.in-Some.text.items) in
    IfOk-weaker c.with_table.result _ _ (λ x h. (calendars c.args.no_calendar dates, h, as-told c.args.no_calendar dates))
    (grind (arith, c.read_calendar_dates.ensures.rows (records_of c.in-Some.text.items) (all_records _ _ c.deref.ensures.value)))
