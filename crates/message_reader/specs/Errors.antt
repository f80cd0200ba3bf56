-- What a function returned, beside what is defined. A definition speaks of causes alone: why a line
-- is bad, or why a message is refused. A function may also run out of memory, whatever is defined.
use Rattle.std.specs.Prelude.{◌≡◌, Some, None, Result, Ok, Err, ⊤}
use Rattle.std.specs.declared.option.Option.{Option}
use Rattle.delay_model.specs.declared.messages.Refusal.{Refusal}
use Rattle.message_reader.specs.declared.bad_line.BadLine.{BadLine}
use Rattle.message_reader.specs.declared.bad_line.LineError.{LineError}
use Rattle.message_reader.specs.declared.bad_line.LineError.TheVariants as lines
use Rattle.message_reader.specs.declared.resolve_error.ResolveError.{ResolveError}
use Rattle.message_reader.specs.declared.resolve_error.ResolveError.TheVariants as messages

-- why a line is bad, if that is why it could not be read
abbrev pub bad_in : LineError → Option BadLine
bad_in (lines.Bad bad) = Some bad
bad_in lines.OutOfMemory = None

-- why a message is refused, if that is why it has no message by number
abbrev pub refusal_in : ResolveError → Option Refusal
refusal_in (messages.Refused refusal) = Some refusal
refusal_in messages.OutOfMemory = None

-- a cause, if there is one, is the one that is defined
abbrev pub IsCauseOf : {Y C : Type 0} → Option C → Result Y C → Type 0
IsCauseOf (Some cause) defined = defined ≡ Err cause
IsCauseOf None defined = ⊤

-- what a function returned, seen by `seen`, is what is defined; an error's cause is found by
-- `cause_in`
abbrev pub GivesAs : {X Y E C : Type 0} → (E → Option C) → (X → Y) → Result X E → Result Y C
    → Type 0
GivesAs cause_in seen (Ok x) defined = defined ≡ Ok (seen x)
GivesAs cause_in seen (Err e) defined = IsCauseOf (cause_in e) defined

-- what a function returned is what is defined; an error's cause is found by `cause_in`
abbrev pub Gives : {X E C : Type 0} → (E → Option C) → Result X E → Result X C → Type 0
Gives cause_in (Ok x) defined = defined ≡ Ok x
Gives cause_in (Err e) defined = IsCauseOf (cause_in e) defined
