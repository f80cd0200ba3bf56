use Rattle.schedule_build.proofs.Words.{◌∙◌, sym, sequence, rising-same}
use Rattle.schedule_build.proofs.trip_calls.trip_calls.Goals as goal

pub returns-then-is_in_sequence : goal.returns-then-is_in_sequence
returns-then-is_in_sequence c = rw (rising-same sequence 0 c.args.rows.now (sym c.is_in_sequence.ensures ∙ c.if-is_in_sequence.true)) c.timed_calls.ensures

pub timed_calls-requires-2-clause-timely : goal.timed_calls-requires-2-clause-timely
timed_calls-requires-2-clause-timely c = rw c.as_slice.ensures.value c.in_ok-all.ensures.timely
