use Rattle.std.proofs.Common.{◌≡◌, ℕ, ◌≤◌, length}
use Rattle.json.specs.Json.{members, value}
use Rattle.serde_json.specs.Data.{no_members}
use Rattle.serde_json.specs.Read.{of_members, converted}
use Rattle.message_reader.specs.Flat.{flat_members}
use Rattle.message_reader.proofs.flat.read_members.Given as goal

abbrev pub invariant-loop-name : goal.invariant-loop-name
invariant-loop-name l =
    (n : ℕ) × (length l.reader ≤ n)
    × (converted (λ read. of_members read no_members) (members (value 126) (length l.initial.reader) l.initial.reader)
    ≡ converted (λ read. of_members read (flat_members l.object)) (members (value 126) n l.reader))

abbrev pub decreases-loop-name : goal.decreases-loop-name
decreases-loop-name l = length l.reader
