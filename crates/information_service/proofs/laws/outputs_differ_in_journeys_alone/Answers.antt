use Rattle.information_service.proofs.Words.{◌≡◌, ◌∙◌, ℕ, ◌++◌, List, [], ◌∷◌, Result, Ok, Err, inl, sym, ap, refl, arith, Network, State, Reply, text_of_reply, BadLine, AskedQuery, query_resolved, Line, Names, said_by, IsReply, IsReplyToResolved, AreReplies}
use Rattle.std.proofs.Common.{◌⊎◌}
use Rattle.message_reader.specs.declared.wire.WireQuery.{WireQuery}
use Rattle.message_reader.specs.declared.wire.Line.{Line as Spoken}
use Rattle.message_reader.specs.declared.wire.Line.TheVariants.{Query as Asks}
use Rattle.information_service.specs.Alike.{ShowTwoJourneys, AreAlike}
use Rattle.information_service.specs.Lines.{names_after}
use Rattle.information_service.proofs.laws.outputs_differ_in_journeys_alone.Goals as goal

-- each of two earliest journeys arrives no later than the other
queries-alike : (nw : Network) (known : Names) (st : State) (count line : ℕ) (x : Line) (q : WireQuery) (asked : Result AskedQuery BadLine) (r s : Reply)
    → said_by x ≡ Ok (Asks q) → query_resolved known q ≡ asked
    → IsReplyToResolved nw st count line asked r → IsReplyToResolved nw st count line asked s
    → (text_of_reply known r ≡ text_of_reply known s) ⊎ ShowTwoJourneys known x (text_of_reply known r) (text_of_reply known s)
queries-alike nw known st count line x q (Ok asked) r s says is i j = grind arith
queries-alike nw known st count line x q (Err bad) r s says is i j = inl (ap (text_of_reply known) (i ∙ sym j))

texts-alike : (nw : Network) (known : Names) (st : State) (count line : ℕ) (x : Line) (said : Result Spoken BadLine) (r s : Reply)
    → said_by x ≡ said → IsReply nw known st count line said r → IsReply nw known st count line said s
    → (text_of_reply known r ≡ text_of_reply known s) ⊎ ShowTwoJourneys known x (text_of_reply known r) (text_of_reply known s)
texts-alike nw known st count line x (Ok (Asks q)) r s says i j = queries-alike nw known st count line x q (query_resolved known q) r s says refl i j
texts-alike nw known st count line x said r s says i j = inl (ap (text_of_reply known) (i ∙ sym j))

replies-alike : (nw : Network) (names : Names) (st : State) (before lines : List Line) (a b : List ℕ)
    → AreReplies nw names st before lines a → AreReplies nw names st before lines b → AreAlike nw names st before lines a b
replies-alike nw names st before [] a b i j = (i, j)
replies-alike nw names st before (x ∷ xs) a b i j = grind (arith, texts-alike nw (names_after nw names st before), replies-alike nw names st (before ++ x ∷ []) xs)

pub returns : goal.returns
returns c = λ nw names st lines a b i j. grind (arith, replies-alike nw names st [] lines)
