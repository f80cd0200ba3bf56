-- A line that a reader answers is short.
use Rattle.std.proofs.Common.{◌≡◌, ℕ, ◌<◌, Bool, true, false, List, [], ◌∷◌, ◌++◌, if◌then◌else◌, length, Option, Bor, refl, ap, subst, arith}
use Rattle.std.specs.Prelude.{⊤}
use Rattle.std.proofs.lemmas.Bool.Decides.{nat_tests}
use Rattle.mt_io.specs.Lines.{Line, short, long, line_of, last_counts, pieces, lines_among, lines_of, lines_past, after_lf}
use Rattle.mt_io.specs.Reader.{Reader, Gives, GivesNext}
use Rattle.mt_io.specs.Answers.{next_lines}
use Rattle.mt_io.specs.declared.lines.Next.{Next}
use Rattle.mt_io.specs.declared.lines.Next.TheVariants as next

-- if the first line is no long one, it has fewer than 65,536 bytes
abbrev BeginsShort : List Line → Type 0
BeginsShort [] = ⊤
BeginsShort (short line ∷ lines) = length line < 65536
BeginsShort (long ∷ lines) = ⊤

piece_begins : (piece : List ℕ) (lines : List Line) → BeginsShort (line_of piece ∷ lines)
piece_begins piece lines = grind (arith, nat_tests)

last_begins : (counts : Bool) (piece : List ℕ) → BeginsShort (if counts then line_of piece ∷ [] else [])
last_begins true piece = piece_begins piece []
last_begins false piece = tt

among_begins : (ended : Bool) (ps : List (List ℕ)) → BeginsShort (lines_among ended ps)
among_begins ended [] = tt
among_begins ended (piece ∷ []) = last_begins (last_counts ended piece) piece
among_begins ended (piece ∷ next ∷ more) = piece_begins piece (lines_among ended (next ∷ more))

past_begins : (inside ended : Bool) (input : List ℕ) → BeginsShort (lines_past inside ended input)
unfolding lines_of
past_begins true ended input = among_begins ended (pieces (after_lf input))
past_begins false ended input = among_begins ended (pieces input)

answered_short : (old new : Reader) (left now : Option (List ℕ)) (bytes line : List ℕ) → Gives old new left now bytes (short line ∷ []) → length line < 65536
answered_short old new left now bytes line gives =
    subst BeginsShort (gives.lines_ahead [] new.ended (λ is. (refl, is))) (past_begins old.inside_long new.ended (old.held ++ (bytes ++ [])))

-- so the line that a call answers is short
pub next_short : (r : Next) (line : Bor (List ℕ)) → r ≡ next.Line line → (old new : Reader) (left now : Option (List ℕ)) → GivesNext old new left now (next_lines r) → length line.now < 65536
next_short r line is old new left now gives =
    let some = subst (GivesNext old new left now) (ap next_lines is) gives in
    answered_short old new left now some.0 line.now some.1
