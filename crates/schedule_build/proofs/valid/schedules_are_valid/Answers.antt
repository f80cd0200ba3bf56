use Rattle.schedule_build.proofs.ValidLemmas.{schedule-valid, schedule-silent, schedule-room}
use Rattle.schedule_build.proofs.valid.schedules_are_valid.Goals as goal

pub returns-clause-valid : goal.returns-clause-valid
returns-clause-valid c = λ nw same. schedule-valid c.args.t.now c.args.first c.args.days c.args.bases.now c.args.opts.now c.tables.ensures.lawful c.requires.few_days c.requires.bases nw same c.requires.options

pub returns-clause-unreported : goal.returns-clause-unreported
returns-clause-unreported c = schedule-silent c.args.t.now c.args.first c.args.days c.args.bases.now c.args.opts.now c.tables.ensures.lawful c.requires.few_days c.requires.bases

pub returns-clause-room : goal.returns-clause-room
returns-clause-room c = schedule-room c.args.t.now.calls _ c.args.opts.now c.requires.options
