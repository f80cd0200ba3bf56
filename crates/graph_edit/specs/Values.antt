-- The answer to a message, and which reports a report or forecast contradicts.
use Rattle.std.specs.Prelude.{◌≡◌, ℕ, Bool, ◌||◌, not, nat_eq, nat_lt, Option, Some, None, Result, Ok, Err}
use Rattle.std.specs.declared.cmp.Ordering.{Ordering}
use Rattle.std.specs.declared.cmp.Ordering.TheVariants.{Less, Equal, Greater}
use Rattle.delay_model.specs.declared.messages.Refusal.{Refusal}

-- the answer is the refusal, or Ok exactly where there is none
abbrev pub Gives : Result (Unit {0}) Refusal → Option Refusal → Type 0
Gives (Ok done) refusal = refusal ≡ None
Gives (Err r) refusal = refusal ≡ Some r

-- a report contradicts that an event of the same train takes place at t: the report of an event
-- before that one, if it is after t, its own report, if it is another time and is not replaced, and
-- the report of an event behind it, if it is before t
abbrev pub contradicts : Bool → Ordering → ℕ → ℕ → Bool
contradicts replaces Less t report = nat_lt t report
contradicts replaces Equal t report = not (replaces || nat_eq report t)
contradicts replaces Greater t report = nat_lt report t
