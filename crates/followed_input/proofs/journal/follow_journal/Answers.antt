use Rattle.std.proofs.Common.{[]}
use Rattle.followed_input.proofs.Answered.{journal-in-part, journal-whole, none-followed, part-followed, reads-handed, reads-none, reads-well}
use Rattle.followed_input.proofs.journal.follow_journal.Goals as goal

pub returns-in_err-follower-clause-followed : goal.returns-in_err-follower-clause-followed
returns-in_err-follower-clause-followed g c = ([], none-followed _ _ _ _ c.from_residual.result c.from_residual.ensures.1)

pub returns-in_err-follower-clause-reads : goal.returns-in_err-follower-clause-reads
returns-in_err-follower-clause-reads g c = reads-none c.from_residual.result _ c.from_residual.ensures.1

pub returns-in_err-answer-clause-followed : goal.returns-in_err-answer-clause-followed
returns-in_err-answer-clause-followed g c =
    let built = c.in_ok-follower.ensures in
    let followed = c.follow_input-answer.ensures.followed in
    let fault = c.in_err-answer.field-0.0 in (
      followed.0,
      part-followed c.from_residual-in_err-answer.result fault c.from_residual-in_err-answer.ensures.1
          (journal-in-part (record { reader = built.reader; board = built.board; opens = c.requires.opening; in_step = c.requires.in_step }) c.follow_input-answer.result fault c.in_err-answer.was followed.1),
    )

pub returns-in_err-answer-clause-reads : goal.returns-in_err-answer-clause-reads
returns-in_err-answer-clause-reads g c =
    reads-handed c.from_residual-in_err-answer.result c.follow_input-answer.result c.in_err-answer.field-0.0 _ _ c.from_residual-in_err-answer.ensures.1 c.in_err-answer.was
    c.follow_input-answer.ensures.reads

pub returns-clause-followed : goal.returns-clause-followed
returns-clause-followed g c =
    let built = c.in_ok-follower.ensures in
    let followed = c.follow_input-answer.ensures.followed in (
      followed.0,
      journal-whole (record { reader = built.reader; board = built.board; opens = c.requires.opening; in_step = c.requires.in_step }) c.follow_input-answer.result c.in_ok-answer.was followed.1 _ _
          c.close-whole.ensures.timetable c.close-whole.ensures.names,
    )

pub returns-clause-reads : goal.returns-clause-reads
returns-clause-reads g c = reads-well c.follow_input-answer.result _ _ c.in_ok-answer.was c.follow_input-answer.ensures.reads
