-- Sums over replies.
use Rattle.std.specs.Prelude.{ℕ, ◌+◌, ◌-◌, ◌^◌, min, fold, List}
use Rattle.delay_report.specs.declared.replies.Reply.{Reply}
use Rattle.delay_report.specs.declared.replies.Reply.TheVariants.{Accepted, Refused, RefusedExtra, Bad, Flush, Journey, NoJourney}
use Rattle.window_service.specs.declared.sums.ReplySums.{ReplySums}

-- the sums over no replies
abbrev pub no_sums : ReplySums
no_sums = record {
  accepted = 0;
  arrivals = 0;
  bad = 0;
  changed = 0;
  found = 0;
  lines = 0;
  queries = 0;
  refused = 0;
}

-- what a line counts for, whatever its reply
abbrev pub one_line : ReplySums
one_line = record no_sums { lines = 1 }

-- what a reply counts for. A journey counts with its time of arrival, in seconds from the base of
-- day 0
abbrev pub reply_sums : Reply → ReplySums
reply_sums (Accepted line number changed) = record one_line { accepted = 1; changed = changed }
reply_sums (Refused line refusal) = record one_line { refused = 1 }
reply_sums (RefusedExtra line trip day from to) = record one_line { refused = 1 }
reply_sums (Bad line bad) = record one_line { bad = 1 }
reply_sums (Flush line count) = one_line
reply_sums (Journey line after day arrives rides) =
    record one_line { arrivals = arrives; found = 1; queries = 1 }
reply_sums (NoJourney line after) = record one_line { queries = 1 }

-- the sum of two numbers, or 2^64 - 1 where it is greater
abbrev pub sum_of : ℕ → ℕ → ℕ
sum_of a b = min (a + b) (2 ^ 64 - 1)

-- both sums in one
abbrev pub added : ReplySums → ReplySums → ReplySums
added a b = record {
  accepted = sum_of a.accepted b.accepted;
  arrivals = sum_of a.arrivals b.arrivals;
  bad = sum_of a.bad b.bad;
  changed = sum_of a.changed b.changed;
  found = sum_of a.found b.found;
  lines = sum_of a.lines b.lines;
  queries = sum_of a.queries b.queries;
  refused = sum_of a.refused b.refused;
}

-- these sums, and what one reply more counts for
abbrev pub with_reply : ReplySums → Reply → ReplySums
with_reply s reply = added s (reply_sums reply)

-- the sums after these replies
abbrev pub sums_after : ReplySums → List Reply → ReplySums
sums_after s replies = fold with_reply s replies

-- the sums over these replies
abbrev pub sums_over : List Reply → ReplySums
sums_over replies = sums_after no_sums replies
