use Rattle.std.proofs.Common.{◌≡◌, ◌+◌, drop}
use Rattle.delay_model.specs.Effect.{new_calls}
use Rattle.delay_model.specs.Events.{events_at}
use Rattle.cancel_reroute.specs.Ranks.{rank_along, last_of}
use Rattle.cancel_reroute.proofs.rank.RankCheck.next_calls.Given as goal

-- the edges so far are not against rank
abbrev pub invariant-loop-call : goal.invariant-loop-call
invariant-loop-call l =
    let left = events_at l.train l.route (new_calls l.label (drop l.call-index l.calls)) in
    let all = events_at l.train l.route (new_calls l.fn.label l.calls) in
    record {
      label : l.label ≡ l.fn.label + l.call-index;
      rank : rank_along l.g.network.opts l.self.last left ≡ rank_along l.g.network.opts l.fn.self.last all;
      last : last_of l.self.last left ≡ last_of l.fn.self.last all;
    }
