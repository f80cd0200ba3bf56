use Rattle.timetable.proofs.Words.{◌∙◌, sym, ap, inl, inr, message_of}
use Rattle.timetable.proofs.Renewed.{choice-leaves, shape-leaves, value-leaves}
use Rattle.timetable.proofs.leaving.list_taken.Goals as goal

pub returns-in-Value : goal.returns-in-Value
returns-in-Value c =
    let g = c.args.graph.now in
    record {
      list = c.clear.ensures.items ∙ elim c.in-Value.is [
        | inl v ↦ value-leaves g.network g.state v.0 (sym (ap message_of v.1) ∙ c.kind.ensures.says)
        | inr o ↦ choice-leaves g.network g.state o.0 (sym (ap message_of o.1) ∙ c.kind.ensures.says)
      ];
      capacity = c.clear.ensures.capacity;
    }

pub returns-in-Shape-clause-list : goal.returns-in-Shape-clause-list
returns-in-Shape-clause-list c =
    let g = c.args.graph.now in
    (let list = rw c.trains.ensures.trains at c.list_leaving.ensures.list in list)
    ∙ shape-leaves g.network g.state c.in-Shape.shape (sym (ap message_of c.in-Shape.is) ∙ c.kind.ensures.says) c.requires.valid c.kind.ensures.well_formed c.requires.accepted
