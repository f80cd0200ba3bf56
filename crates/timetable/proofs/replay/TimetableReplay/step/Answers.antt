use Rattle.timetable.proofs.Words.{refusal}
use Rattle.timetable.proofs.Stepping.{none-known}
use Rattle.timetable.proofs.replay.TimetableReplay.step.Goals as goal

pub take-requires-clause-accepted : goal.take-requires-clause-accepted
take-requires-clause-accepted c =
    none-known (refusal c.args.self.now.network c.args.self.now.state c.args.m.now) c.requires.fits
