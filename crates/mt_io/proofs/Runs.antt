-- Whole runs of a line reader.
use Rattle.std.proofs.Common.{◌≡◌, ◌++◌, ◌∷◌, ◌∙◌, ℕ, List, [], length, Bool, Option, true, false, arith, ap, sym, refl, append_assoc}
use Rattle.std.proofs.lemmas.List.{append-nil, length-append}
use Rattle.mt_io.specs.Lines.{Line, short, long, lines_of, lines_past}
use Rattle.mt_io.specs.Answers.{next_lines, LeavesNext}
use Rattle.mt_io.specs.Reader.{Reader, GivesNext, HoldsNoLine, ahead}
use Rattle.mt_io.specs.declared.lines.Next.{Next}
use Rattle.mt_io.specs.Runs.{BeginsWithNone, GoesOnWithEach, EndsWithAll, StopsWithAll, EndsExactly, SpendsExactly}
use Rattle.mt_io.specs.declared.lines.Next.TheVariants as next
use Rattle.mt_io.proofs.Gives.{open_ended}
use Rattle.mt_io.proofs.LineFacts.{front_none_past, none_past}

pub begins : BeginsWithNone
begins budget = record { taken = refl; lines_ahead = λ rest ended can. refl }

pub goes_on : GoesOnWithEach
goes_on bytes more lines answered old new left now so_far call = record {
  taken = omega (arith, so_far.taken, call.taken, length-append bytes more);
  lines_ahead = λ rest ended can.
      ap (lines_of ended) (append_assoc bytes more rest)
      ∙ so_far.lines_ahead (more ++ rest) ended (λ is. let stays = call.still_ended is in
      ((λ k. stays.1 k ++ (can stays.0).0 k), (can stays.0).1))
      ∙ ap (λ (l : List Line). lines ++ l) (call.lines_ahead rest ended can)
      ∙ sym (append_assoc lines answered (ahead new rest ended));
}

pub ends : EndsWithAll
ends bytes lines r so_far done =
    ap (lines_of true) (sym (append-nil bytes)) ∙ so_far.lines_ahead [] true (λ _. (refl, refl))
    ∙ ap (λ (l : List Line). lines ++ l) ((λ k. lines_past r.inside_long true (done.held k ++ [])) ∙ none_past r.inside_long true) ∙ append-nil lines

pub stops : StopsWithAll
stops bytes lines r so_far not_yet none =
    ap (lines_of false) (sym (append-nil bytes)) ∙ so_far.lines_ahead [] false (λ is. open_ended r.ended not_yet is)
    ∙ ap (λ (l : List Line). lines ++ l) (ap (lines_past r.inside_long false) (append-nil r.held) ∙ none) ∙ append-nil lines

-- a call that answers a line does so of what was held and taken
line_was_left : (old new : Reader) (bytes : List ℕ) (ended : Bool) (line : Line) → ahead old (bytes ++ []) ended ≡ line ∷ ahead new [] ended
    → lines_past old.inside_long ended (old.held ++ bytes) ≡ [] → ⊥
line_was_left old new bytes ended line gives none =
    let bad : [] ≡ line ∷ ahead new [] ended = sym none ∙ ap (λ (l : List ℕ). lines_past old.inside_long ended (old.held ++ l)) (sym (append-nil bytes)) ∙ gives in
    absurd (omega (arith, ap length bad))

pub ends_exactly : EndsExactly
ends_exactly old new left now bytes (next.Line line) call leaves is none = absurd (line_was_left old new bytes true (short line.now) (call.lines_ahead [] true (λ _. (refl, refl))) none)
ends_exactly old new left now bytes next.LongLine call leaves is none = absurd (line_was_left old new bytes true long (call.lines_ahead [] true (λ _. (refl, refl))) none)
ends_exactly old new left now bytes next.End call leaves is none = refl
ends_exactly old new left now bytes next.ReadFault call leaves is none = open_ended new.ended leaves.ended is
ends_exactly old new left now bytes next.Budget call leaves is none = open_ended new.ended leaves.ended is

pub spends_exactly : SpendsExactly
spends_exactly old new left now bytes (next.Line line) call leaves not_yet spent none = absurd (line_was_left old new bytes false (short line.now) (call.lines_ahead [] false (λ is. open_ended new.ended not_yet is)) none)
spends_exactly old new left now bytes next.LongLine call leaves not_yet spent none = absurd (line_was_left old new bytes false long (call.lines_ahead [] false (λ is. open_ended new.ended not_yet is)) none)
spends_exactly old new left now bytes next.End call leaves not_yet spent none = open_ended new.ended not_yet leaves.ended
spends_exactly old new left now bytes next.ReadFault call leaves not_yet spent none = absurd (omega (arith, leaves.taken, spent))
spends_exactly old new left now bytes next.Budget call leaves not_yet spent none = refl

-- a call that answers no line found none in what was held
still_none : (old new : Reader) (left left_now : Option (List ℕ)) → GivesNext old new left left_now [] → new.ended ≡ false → HoldsNoLine new → HoldsNoLine old
still_none old new left now call not_yet none =
    front_none_past old.inside_long false old.held (call.0 ++ []) (call.1.lines_ahead [] false (λ is. open_ended new.ended not_yet is) ∙ ap (lines_past new.inside_long false) (append-nil new.held) ∙ none)

pub none_was_held : (old new : Reader) (left left_now : Option (List ℕ)) (answer : Next) → GivesNext old new left left_now (next_lines answer) → LeavesNext answer old new
    → next_lines answer ≡ [] → HoldsNoLine old
none_was_held old new left now (next.Line line) call leaves is = absurd (omega (arith, ap length is))
none_was_held old new left now next.LongLine call leaves is = absurd (omega (arith, ap length is))
none_was_held old new left now next.End call leaves is =
    front_none_past old.inside_long true old.held (call.0 ++ [])
    (call.1.lines_ahead [] true (λ _. (refl, refl)) ∙ (λ k. lines_past new.inside_long true (leaves.held k ++ [])) ∙ none_past new.inside_long true)
none_was_held old new left now next.ReadFault call leaves is = still_none old new left now call leaves.ended leaves.none
none_was_held old new left now next.Budget call leaves is = still_none old new left now call leaves.ended leaves.none
