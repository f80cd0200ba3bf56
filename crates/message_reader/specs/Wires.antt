-- What is true of each message and each query that was read.
use Rattle.std.specs.Prelude.{◌<◌, ◌≤◌, ◌^◌, All, IfSome, length}
use Rattle.mt_base.specs.Civil.{IsCivil}
use Rattle.message_reader.specs.declared.wire.WireCall.{WireCall}
use Rattle.message_reader.specs.declared.wire.Wire.{Wire}
use Rattle.message_reader.specs.declared.wire.Wire.TheVariants.{Event, Correct, Withdraw, Cancel, Reroute, Extra, Connect}
use Rattle.message_reader.specs.declared.wire.WireQuery.{WireQuery}
use Rattle.message_reader.specs.declared.wire.WireTime.{WireTime}
use Rattle.message_reader.specs.declared.wire.Line.{Line}
use Rattle.message_reader.specs.declared.wire.Line.TheVariants.{Message, Query, Flush}

-- both times are at most 99:59:59
abbrev pub IsWireCall : WireCall → Type 0
IsWireCall c = (c.arr ≤ 359999) × (c.dep ≤ 359999)

-- every date is civil, every time is at most 99:59:59, and an extra train has at least two calls
abbrev pub IsProper : Wire → Type 0
IsProper (Event kind trip date call dep secs) = IsCivil date × (secs ≤ 359999)
IsProper (Correct trip date call dep secs) = IsCivil date × IfSome secs (λ s. s ≤ 359999)
IsProper (Withdraw trip date call dep) = IsCivil date
IsProper (Cancel trip date from to) = IsCivil date
IsProper (Reroute trip date from to via) = IsCivil date × All IsWireCall via
IsProper (Extra trip date route calls) = IsCivil date × All IsWireCall calls × (2 ≤ length calls)
IsProper (Connect kind feeder train) = IsCivil feeder.date × IsCivil train.date

-- the message makes fewer than 2^31 new calls, so that each has a label
abbrev pub MakesFewCalls : Wire → Type 0
MakesFewCalls (Event kind trip date call dep secs) = Unit {0}
MakesFewCalls (Correct trip date call dep secs) = Unit {0}
MakesFewCalls (Withdraw trip date call dep) = Unit {0}
MakesFewCalls (Cancel trip date from to) = Unit {0}
MakesFewCalls (Reroute trip date from to via) = length via < 2 ^ 31
MakesFewCalls (Extra trip date route calls) = length calls < 2 ^ 31
MakesFewCalls (Connect kind feeder train) = Unit {0}

-- what is true of each message that was read from a line of fewer than 2^31 bytes
abbrev pub IsWire : Wire → Type 0
IsWire w = IsProper w × MakesFewCalls w

-- the date is civil, and the time of day is at most 99:59:59
abbrev pub IsWireTime : WireTime → Type 0
IsWireTime t = IsCivil t.date × (t.secs ≤ 359999)

-- so is the time of the query, where it has one
abbrev pub IsWireQuery : WireQuery → Type 0
IsWireQuery q = IfSome q.time IsWireTime

-- the message or query of the line keeps what every one that is read keeps
abbrev pub IsLine : Line → Type 0
IsLine (Message w) = IsWire w
IsLine (Query q) = IsWireQuery q
IsLine Flush = Unit {0}
