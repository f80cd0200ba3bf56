use Rattle.std.proofs.Common.{ℕ, List, [], ◌∷◌, ◌++◌, refl, ◌∙◌, ap, arith}
use Rattle.delay_model.specs.declared.state.Timed.{Timed}
use Rattle.delay_model.specs.Timing.{local, time_at}
use Rattle.delay_model.proofs.InOrder.{keeps-by, keeps-fits, keeps-small, keeps-more, keeps-all}
use Rattle.delay_model.proofs.evaluate.time_all.Goals as goal

pub local-requires : goal.local-requires
local-requires c = record {
  fits =
      keeps-fits c.args.nw.now c.args.st.now c.requires.valid c.args.all_events.now c.deref.result.now c.deref-v-items.result.now c.loop-v.v-index c.deref-in-loop-v.result.now
      (keeps-by _ _ _ _ _ _ _ _ _ _ c.requires.all c.deref.ensures.value c.in_ok-all_edges.ensures c.in_ok-order.ensures.moved c.in_ok-order.ensures.sorted c.deref-v-items.ensures.value c.deref-in-loop-v.ensures.value c.loop-v.invariant)
      c.v-item.result c.loop-v-test.true c.v-item.is;
}

pub new-time-requires : goal.new-time-requires
new-time-requires c =
    let small =
    keeps-small c.args.nw.now c.args.st.now c.requires.valid c.args.all_events.now c.deref.result.now c.deref-v-items.result.now c.loop-v.v-index c.deref-in-loop-v.result.now
    (keeps-by _ _ _ _ _ _ _ _ _ _ c.requires.all c.deref.ensures.value c.in_ok-all_edges.ensures c.in_ok-order.ensures.moved c.in_ok-order.ensures.sorted c.deref-v-items.ensures.value c.deref-in-loop-v.ensures.value c.loop-v.invariant)
    c.v-item.result c.loop-v-test.true c.v-item.is
    in
    let is = c.local.ensures in
    omega arith

pub loop-v-preserved : goal.loop-v-preserved
loop-v-preserved c =
    keeps-more c.args.nw.now c.args.st.now c.requires.valid c.args.all_events.now c.deref.result.now c.deref-v-items.result.now c.loop-v.v-index c.loop-v.times.items c.push.new.self.items
    (keeps-by _ _ _ _ _ _ _ _ _ _ c.requires.all c.deref.ensures.value c.in_ok-all_edges.ensures c.in_ok-order.ensures.moved c.in_ok-order.ensures.sorted c.deref-v-items.ensures.value refl c.loop-v.invariant)
    c.v-item.result c.local.result c.loop-v-test.true c.v-item.is
    (c.local.ensures ∙ ap (λ (rows : List Timed). local c.args.all_events.now c.deref.result.now (time_at rows) c.v-item.result) c.deref-in-loop-v.ensures.value)
    (c.in_ok-push.ensures.items ∙ ap (λ (t : ℕ). c.loop-v.times.items ++ record { key = c.v-item.result.key; time = t } ∷ []) c.new-time.ensures)

pub returns : goal.returns
returns c =
    keeps-all c.args.nw.now c.args.st.now c.args.all_events.now _ c.deref-v-items.result.now c.loop-v.v-index c.loop-v.times.items
    (keeps-by _ _ _ _ _ _ _ _ _ _ c.requires.all refl c.in_ok-all_edges.ensures c.in_ok-order.ensures.moved c.in_ok-order.ensures.sorted c.deref-v-items.ensures.value refl c.loop-v.invariant)
    (omega arith)
