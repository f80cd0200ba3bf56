use Rattle.std.proofs.Common.{ℕ, List, Option, Result, Ok, Err, inl}
use Rattle.std.specs.Result.{IfErr, IfOk}
use Rattle.command_words.specs.Words.{Asked}
use Rattle.information_service.specs.ServiceState.{ServiceState}
use Rattle.commands.specs.LineTasks.{Behind, BeginsSome}
use Rattle.commands.specs.Loading.{HasOwnLine, IsLoaded}
use Rattle.commands.specs.declared.loading.LoadFault.{LoadFault}
use Rattle.commands.specs.declared.loading.LoadFault.TheVariants.{Refused, OutOfMemory}
use Rattle.commands.proofs.loading.load_behind.Goals as goal

-- what is due is what the command begins with
own-start : {C : Type 0} (b : Behind C) (asked : Asked) (table : Option (List ℕ)) (t now : ServiceState) (run : Result C LoadFault)
    → IsLoaded (b.begins asked table t) now run → IfOk run (λ kept. BeginsSome b (record { service = now; kept = kept }))
own-start b asked table t now (Ok kept) due = record { asked = asked; table = table; service = t; is = due }
own-start b asked table t now (Err (Refused line)) due = tt
own-start b asked table t now (Err OutOfMemory) due = tt

-- the line that is due is one of the command's
own-line : {C : Type 0} (b : Behind C) (asked : Asked) (table : Option (List ℕ)) (t now : ServiceState) (run : Result C LoadFault)
    → IsLoaded (b.begins asked table t) now run → IfErr run (HasOwnLine b)
own-line b asked table t now (Ok kept) due = tt
own-line b asked table t now (Err (Refused line)) due = inl (record { asked = asked; table = table; service = t; is = due })
own-line b asked table t now (Err OutOfMemory) due = tt

pub returns-in-Table-clause-begins : goal.returns-in-Table-clause-begins
returns-in-Table-clause-begins g c = own-start g.L.LoadBehind.behind _ _ _ _ c.load.result c.load.ensures.loaded

pub returns-in-Table-clause-line : goal.returns-in-Table-clause-line
returns-in-Table-clause-line g c = own-line g.L.LoadBehind.behind _ _ _ _ c.load.result c.load.ensures.loaded
