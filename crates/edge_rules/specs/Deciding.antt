-- Which edges may change the time of the event to which they lead.
use Rattle.std.specs.Prelude.{ℕ, ◌+◌, Bool, true, ◌&&◌, ◌||◌, nat_le, nat_lt}
use Rattle.delay_model.specs.declared.state.Edge.{Edge}
use Rattle.delay_model.specs.declared.state.EdgeKind.{EdgeKind}
use Rattle.delay_model.specs.declared.state.EdgeKind.TheVariants.{Train as AlongTrain, Planned}
use Rattle.delay_model.specs.declared.state.EdgeKind.TheVariants.{Kept}

-- an edge of this kind that asks for a time of an event scheduled at s may decide the time of it: a
-- planned one only where it asks for a time later than the schedule and within the wait
abbrev pub may_decide : EdgeKind → ℕ → ℕ → Bool
may_decide AlongTrain s asked = true
may_decide Kept s asked = true
may_decide (Planned wait) s asked = nat_lt s asked && nat_le asked (s + wait)

-- where the event that it leaves gets another time, the edge may change the time of the event to
-- which it leads
abbrev pub may_change : ℕ → ℕ → Edge → Bool
may_change was is e =
    may_decide e.kind e.to.time (was + e.weight) || may_decide e.kind e.to.time (is + e.weight)
