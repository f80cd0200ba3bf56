use Rattle.call_lines.proofs.Words.{refl, arith}
use Rattle.call_lines.proofs.PartLemmas.{slots}
use Rattle.call_lines.proofs.parts.find_part.Goals as goal

pub returns-then-first-last : goal.returns-then-first-last
returns-then-first-last c =
    record {
      train_is = refl;
      start = c.in_ok-from.ensures;
      end = c.in_ok-to.ensures;
      first_is = grind (arith, slots, c.place-first.ensures, c.index-calls-from.is, c.in_ok-from.ensures);
      last_is = grind (arith, slots, c.place-last.ensures, c.index-calls-to.is, c.in_ok-to.ensures);
      order = omega arith;
    }
