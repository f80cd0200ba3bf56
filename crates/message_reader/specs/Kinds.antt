-- The types of lines, and the versions that have them.
use Rattle.std.specs.Prelude.{ℕ, ◌==◌, ◌||◌, List, Bool, if◌then◌else◌, Some, None, bytes_eq, codes}
use Rattle.std.specs.declared.option.Option.{Option}
use Rattle.message_reader.specs.declared.kinds.Kind.{Kind}
use Rattle.message_reader.specs.declared.kinds.Kind.TheVariants as kinds

-- the type that a text names
unfoldable pub kind_of : List ℕ → Option Kind
kind_of name =
    if bytes_eq name (codes "forecast") then Some kinds.Forecast
    else (if bytes_eq name (codes "report") then Some kinds.Report
    else (if bytes_eq name (codes "correct") then Some kinds.Correct
    else (if bytes_eq name (codes "withdraw") then Some kinds.Withdraw
    else (if bytes_eq name (codes "cancel") then Some kinds.Cancel
    else (if bytes_eq name (codes "reroute") then Some kinds.Reroute
    else (if bytes_eq name (codes "extra") then Some kinds.Extra
    else (if bytes_eq name (codes "keep") then Some kinds.Keep
    else (if bytes_eq name (codes "drop") then Some kinds.Drop
    else (if bytes_eq name (codes "rule") then Some kinds.Rule
    else (if bytes_eq name (codes "query") then Some kinds.Query
    else (if bytes_eq name (codes "flush") then Some kinds.Flush
    else None)))))))))))

-- a line of version `v` can have this type
unfoldable pub has_version : Kind → ℕ → Bool
has_version kinds.Correct v = v == 2
has_version kinds.Withdraw v = v == 2
has_version _ v = (v == 1) || (v == 2)
