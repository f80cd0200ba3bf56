use Rattle.change_times.proofs.Words.{rules, ◌≡◌, ◌∙◌, true, false, sym, IfOk-equal, is_stop}
use Rattle.change_times.proofs.CountLemmas.{back-at-stop, back-elsewhere}
use Rattle.change_times.proofs.reach.fill_back.Goals as goal

pub returns-then-is_stop : goal.returns-then-is_stop
returns-then-is_stop c =
    let t = c.args.table.now in
    let e : is_stop t.stops c.args.place ≡ true = search rules in
    IfOk-equal c.fill.result _ _ _ c.fill.ensures (back-at-stop t c.args.place e)

pub returns-else-is_stop : goal.returns-else-is_stop
returns-else-is_stop c =
    let t = c.args.table.now in
    let e : is_stop t.stops c.args.place ≡ false = search rules in
    c.clear.ensures.items ∙ sym (back-elsewhere t c.args.place e)
