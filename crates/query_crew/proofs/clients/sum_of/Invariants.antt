use Rattle.std.proofs.Common.{◌≡◌, ◌*◌, ◌≤◌, take, sum}
use Rattle.query_crew.proofs.clients.sum_of.Given as goal

abbrev pub invariant-loop-byte : goal.invariant-loop-byte
invariant-loop-byte l = record { is : l.total ≡ sum (take l.byte-index l.bytes); few : l.total ≤ 255 * l.byte-index }
