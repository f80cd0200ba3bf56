-- The meaning after a list of messages.
use Rattle.std.specs.Prelude.{◌≡◌, ◌==◌, List, [], ◌∷◌, ◌++◌, length, fold, cond, Option, Some, None}

-- the meaning after these messages, where the opening one is known
abbrev pub meaning_after : {St M : Type 0} → (St → M → St) → Option St → List M → Option St
meaning_after after None list = None
meaning_after after (Some opening) list = Some (fold after opening list)

-- the message may be given to a value with the meaning after these messages
abbrev pub FitsAfter : {St M : Type 0} → (St → M → St) → (St → M → Type 0) → Option St → List M → M
    → Type 0
FitsAfter {St} after fits opening list m =
    (s : St) → meaning_after after opening list ≡ Some s → fits s m

-- a meaning and the messages before it, once this message was offered: it is taken where as many
-- messages were before it
abbrev pub taken_in : {St M : Type 0} → (St → M → St) → St × List M → M → List M → St × List M
taken_in after s m before =
    cond (length s.1 == length before) (after s.0 m, before ++ m ∷ []) s
