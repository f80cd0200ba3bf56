use Rattle.std.proofs.Common.{◌≡◌, ◌≤◌, ◌+◌, List, ℕ, Some, length, arith, refl, ap, inr}
use Rattle.std.proofs.lemmas.List.{length-append}
use Rattle.information_service.specs.Fronts.{AppendsFront}
use Rattle.mt_io.specs.Causes.{once_full}
use Rattle.mt_io.specs.Memory.{can_fail}
use Rattle.commands.specs.Summaries.{IsOnlySummary, WritesSummary}
use Rattle.command_words.specs.GenWords.{gen_asked_of}
use Rattle.command_words.specs.declared.gen_words.AskedGen.{AskedGen}
use Rattle.command_tests.proofs.tests.in_memory.generate_in_memory.Goals as goal

-- a front of the summary fits where the summary does
summary-fits : (words : List (List ℕ)) (held written : List ℕ) (room : ℕ)
    → ((asked : AskedGen) (line : List ℕ) → gen_asked_of words ≡ Some asked → IsOnlySummary asked.trains line → length held + length line ≤ room) → WritesSummary (AppendsFront ⊥) words (Some held) (Some written) → length written ≤ room
summary-fits words held written room fits w =
    omega (arith, fits w.asked w.line w.asked_is w.is, ap length w.written.written, length-append held w.written.front, ap length w.written.all, length-append w.written.front w.written.rest)

pub returns : goal.returns
returns g c =
    let out = c.args.out.now in
    let asked = c.requires.asked in
    record {
      well = (c.traind_within.ensures.generated c.requires.command).complete asked.0 asked.1 (inr (inr (record {
        room = out.room;
        can = ap (λ (calls : List ℕ). can_fail calls (once_full out.room)) c.requires.out;
        held = out.held;
        told = refl;
        fits = λ written w. summary-fits _ out.held written out.room c.requires.room w;
      })));
    }
