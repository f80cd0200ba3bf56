use Rattle.std.proofs.lemmas.List.Elements.{All-contains}
use Rattle.mt_base.proofs.KeyLemmas.{before-asymmetric}
use Rattle.delay_model.specs.Edges.{edges}
use Rattle.delay_model.specs.Valid.{IsForward}
use Rattle.delay_model.proofs.laws.a_later_key_never_feeds_an_earlier_one.Goals as goal

pub returns-clause-never : goal.returns-clause-never
returns-clause-never c = λ e h.
    before-asymmetric e.from e.to (All-contains IsForward (edges c.args.nw.now c.args.st.now) e c.requires.forward h).later
