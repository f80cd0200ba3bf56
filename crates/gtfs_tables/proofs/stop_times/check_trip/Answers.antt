use Rattle.gtfs_tables.proofs.Words.{◌-◌, None, length, arith, CallTimes}
use Rattle.gtfs_tables.proofs.CallLemmas.{check_trip-ends}
use Rattle.gtfs_tables.proofs.stop_times.check_trip.Goals as goal

-- what stands where no call is
abbrev no_call : CallTimes
no_call = record { row = 0; arr = None; dep = None }

pub returns-in_err-check_end-in-len2-up-2 : goal.returns-in_err-check_end-in-len2-up-2
returns-in_err-check_end-in-len2-up-2 c = grind (arith, check_trip-ends c.args.calls.now no_call no_call (length c.args.calls.now - 1))

pub returns-in_ok-check_end-in-len2-up-2 : goal.returns-in_ok-check_end-in-len2-up-2
returns-in_ok-check_end-in-len2-up-2 c = grind (arith, check_trip-ends c.args.calls.now no_call no_call (length c.args.calls.now - 1))
