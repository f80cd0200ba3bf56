use Rattle.timetable.proofs.Words.{◌∙◌, ap, inl, inr, message_of, refl, sym}
use Rattle.timetable.proofs.Renewed.{choice-after, value-after}
use Rattle.timetable.proofs.marking.mark_after.Goals as goal

pub returns-in-Value : goal.returns-in-Value
returns-in-Value c =
    let nw = c.args.graph.now.network in
    let marks = c.args.marks.now in
    record {
      marked = λ st _ before.
          elim c.in-Value.is [
            | inl v ↦ value-after nw st v.0 (sym (ap message_of v.1) ∙ c.kind.ensures.says) marks before
            | inr d ↦ choice-after nw st d.0 (sym (ap message_of d.1) ∙ c.kind.ensures.says) marks before
          ];
      room = refl;
    }
