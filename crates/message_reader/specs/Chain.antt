-- Steps of reading or looking up, of which the first that fails names the cause.
use Rattle.std.specs.Prelude.{Bool, true, false, Some, None, Result, Ok, Err}
use Rattle.std.specs.declared.option.Option.{Option}

infixl 10 ◌>>=◌
-- the next step, unless this one failed
abbrev pub ◌>>=◌ : {A B E : Type 0} → Result A E → (A → Result B E) → Result B E
(Ok x) >>= f = f x
(Err e) >>= f = Err e

-- the value, or this cause where there is none
abbrev pub need : {A E : Type 0} → E → Option A → Result A E
need cause None = Err cause
need cause (Some x) = Ok x

-- this cause, unless the test holds
abbrev pub unless : {E : Type 0} → Bool → E → Result (Unit {0}) E
unless true cause = Ok tt
unless false cause = Err cause
