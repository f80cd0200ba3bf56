use Rattle.dep_order.proofs.Words.{sym, ◌∙◌, arith, refl}
use Rattle.dep_order.proofs.GapLemmas.{back-at, back-within, followed-at, front-at, front-within, further-at}
use Rattle.dep_order.proofs.lists.Lists.walk.Goals as goal

pub search-init : goal.search-init
search-init c =
    let r = c.requires.between in
    record { front = r.forward; front_is = r.front_is; back = r.backward; back_is = r.back_is; fewer = omega arith; few = omega arith }

pub departure-front-requires : goal.departure-front-requires
departure-front-requires c = front-within c.args.self.now c.args.ends.bucket c.args.departure.now c.requires.kept c.requires.new_key c.search.after c.search.invariant.front c.search.invariant.front_is

pub cold-front_before-requires : goal.cold-front_before-requires
cold-front_before-requires c = front-within c.args.self.now c.args.ends.bucket c.args.departure.now c.requires.kept c.requires.new_key c.search.after c.search.invariant.front c.search.invariant.front_is

pub hot-after-requires : goal.hot-after-requires
hot-after-requires c = front-within c.args.self.now c.args.ends.bucket c.args.departure.now c.requires.kept c.requires.new_key c.search.after c.search.invariant.front c.search.invariant.front_is

pub departure-back-requires : goal.departure-back-requires
departure-back-requires c = back-within c.args.self.now c.args.ends.bucket c.args.departure.now c.requires.kept c.requires.new_key c.search.before c.search.invariant.back c.search.invariant.back_is

pub hot-back_after-requires : goal.hot-back_after-requires
hot-back_after-requires c = back-within c.args.self.now c.args.ends.bucket c.args.departure.now c.requires.kept c.requires.new_key c.search.before c.search.invariant.back c.search.invariant.back_is

pub cold-before-requires : goal.cold-before-requires
cold-before-requires c = back-within c.args.self.now c.args.ends.bucket c.args.departure.now c.requires.kept c.requires.new_key c.search.before c.search.invariant.back c.search.invariant.back_is

pub returns-then-leaves_before-clause-gap : goal.returns-then-leaves_before-clause-gap
returns-then-leaves_before-clause-gap c =
    let x = front-at c.args.self.now c.args.ends.bucket c.args.departure.now c.requires.kept c.requires.new_key c.search.after c.departure-front.result c.cold-front_before.result c.departure-front.ensures c.cold-front_before.ensures c.search.invariant.front c.search.invariant.front_is (sym c.leaves_before.ensures ∙ c.if-leaves_before.true) in
    record { next = x.0; previous = x.1 }

pub returns-then-leaves_before-2-clause-gap : goal.returns-then-leaves_before-2-clause-gap
returns-then-leaves_before-2-clause-gap c =
    let x = back-at c.args.self.now c.args.ends.bucket c.args.departure.now c.requires.kept c.requires.new_key c.search.before c.departure-back.result c.hot-back_after.result c.departure-back.ensures c.hot-back_after.ensures c.search.invariant.back c.search.invariant.back_is (sym c.leaves_before-in-search.ensures ∙ c.if-leaves_before-2.true) in
    record { next = x.0; previous = x.1 }

pub search-preserved : goal.search-preserved
search-preserved c =
    let i = c.search.invariant in
    let all = further-at c.args.self.now c.args.ends.bucket c.args.departure.now c.requires.kept c.requires.new_key c.search.after c.search.before c.departure-front.result c.departure-back.result c.hot-after.result c.cold-before.result c.departure-front.ensures c.departure-back.ensures c.hot-after.ensures c.cold-before.ensures i.front i.front_is i.back i.back_is (sym c.leaves_before.ensures ∙ c.if-leaves_before.false) (sym c.leaves_before-in-search.ensures ∙ c.if-leaves_before-2.false) in
    record { front = all.0; front_is = all.1; back = all.2; back_is = all.3; fewer = omega (arith, all.4, i.fewer); few = omega (arith, i.few) }

pub search-smaller : goal.search-smaller
search-smaller c =
    let i = c.search.invariant in
    (further-at c.args.self.now c.args.ends.bucket c.args.departure.now c.requires.kept c.requires.new_key c.search.after c.search.before c.departure-front.result c.departure-back.result c.hot-after.result c.cold-before.result c.departure-front.ensures c.departure-back.ensures c.hot-after.ensures c.cold-before.ensures i.front i.front_is i.back i.back_is (sym c.leaves_before.ensures ∙ c.if-leaves_before.false) (sym c.leaves_before-in-search.ensures ∙ c.if-leaves_before-2.false)).4

pub returns-then-steps-eq-STEPS-clause-further : goal.returns-then-steps-eq-STEPS-clause-further
returns-then-steps-eq-STEPS-clause-further c =
    let i = c.search.invariant in
    let late = sym c.leaves_before-in-search.ensures ∙ c.if-leaves_before-2.false in
    let all = further-at c.args.self.now c.args.ends.bucket c.args.departure.now c.requires.kept c.requires.new_key c.search.after c.search.before c.departure-front.result c.departure-back.result c.hot-after.result c.cold-before.result c.departure-front.ensures c.departure-back.ensures c.hot-after.ensures c.cold-before.ensures i.front i.front_is i.back i.back_is (sym c.leaves_before.ensures ∙ c.if-leaves_before.false) late in
    record {
      bucket = refl;
      between = record { forward = all.0; front_is = all.1; backward = all.2; back_is = all.3 };
      followed = followed-at c.args.self.now c.args.ends.bucket c.args.departure.now c.requires.kept c.requires.new_key c.search.before c.departure-back.result c.departure-back.ensures i.back i.back_is late;
      fewer = omega (arith, all.4, i.fewer);
    }
