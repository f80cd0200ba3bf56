use Rattle.std.proofs.Common.{◌≡◌, ◌<◌, ◌||◌, ◌++◌, ◌∙◌, [], List, ap, arith, false, length, subst, sym}
use Rattle.std.specs.List.{insert}
use Rattle.mt_base.specs.declared.keys.Key.{Key}
use Rattle.mt_base.specs.Order.{is_same}
use Rattle.rank_order.specs.InOrder.{in_order}
use Rattle.rank_order.specs.Marked.{Ascends, Marked, has_key}
use Rattle.rank_order.proofs.OrderLemmas.{in_order-alone}
use Rattle.rank_order.proofs.GatherLemmas.{put-apart, put-in, still-there}
use Rattle.rank_order.proofs.marks.Marks.set.Goals as goal

pub returns-in_default-clause-marked : goal.returns-in_default-clause-marked
returns-in_default-clause-marked c = λ q.
    subst (λ (m : Marked). has_key m.keys q ≡ (is_same c.args.k.now q || has_key m.keys q)) c.self.view_is (still-there c.self.inside.keys.items c.self.inside.late c.args.k.now c.in_default.ensures.there q)

pub invariant_of-self : goal.invariant_of-self
invariant_of-self c =
    let keys = c.self.inside.keys.items in
    let late = c.self.inside.late in
    let k = c.args.k.now in
    let less = subst (λ (m : Marked). has_key m.keys k ≡ false → length m.keys < m.room) (sym c.self.view_is) c.requires.room in
    let put = put-apart keys late c.set_far.new.late c.self.inside.room k c.self.invariant.ascends c.self.invariant.fits less (c.set_far.ensures.set c.if-set_far.true) in
    record {
      ascends = c.self.invariant.ascends;
      spare = c.self.invariant.spare;
      room = c.self.invariant.room;
      spare_room = c.self.invariant.spare_room;
      fits = put.fits;
    }

pub returns-then-set_far-clause-marked : goal.returns-then-set_far-clause-marked
returns-then-set_far-clause-marked c = λ q.
    let keys = c.self.inside.keys.items in
    let late = c.self.inside.late in
    let k = c.args.k.now in
    let less = subst (λ (m : Marked). has_key m.keys k ≡ false → length m.keys < m.room) (sym c.self.view_is) c.requires.room in
    let put = put-apart keys late c.set_far.new.late c.self.inside.room k c.self.invariant.ascends c.self.invariant.fits less (c.set_far.ensures.set c.if-set_far.true) in
    subst (λ (m : Marked). has_key (in_order (keys ++ c.set_far.new.late)) q ≡ (is_same k q || has_key m.keys q)) c.self.view_is (put.marks q)

pub gather_if_full-requires-clause-ascends : goal.gather_if_full-requires-clause-ascends
gather_if_full-requires-clause-ascends c =
    let keys = c.self.inside.keys.items in
    let late = c.self.inside.late in
    let k = c.args.k.now in
    let room = c.self.inside.room in
    let place = c.in-Some.place in
    let less = subst (λ (m : Marked). has_key m.keys k ≡ false → length m.keys < m.room) (sym c.self.view_is) c.requires.room in
    let done : length keys < room → c.insert.new.self.items ≡ insert keys place k = λ fewer. grind (arith, c.insert.ensures.full, c.insert.ensures.items, c.self.invariant.room, fewer) in
    let put = put-in keys late c.insert.new.self.items c.set_far.new.late place room k c.self.invariant.ascends c.in-Some.ensures.bound c.in-Some.ensures.place c.in-Some.ensures.none c.self.invariant.fits less done (c.set_far.ensures.unset c.if-set_far.false) in
    put.ascends

pub gather_if_full-requires-clause-room : goal.gather_if_full-requires-clause-room
gather_if_full-requires-clause-room c =
    let keys = c.self.inside.keys.items in
    let late = c.self.inside.late in
    let k = c.args.k.now in
    let room = c.self.inside.room in
    let place = c.in-Some.place in
    let less = subst (λ (m : Marked). has_key m.keys k ≡ false → length m.keys < m.room) (sym c.self.view_is) c.requires.room in
    let done : length keys < room → c.insert.new.self.items ≡ insert keys place k = λ fewer. grind (arith, c.insert.ensures.full, c.insert.ensures.items, c.self.invariant.room, fewer) in
    let put = put-in keys late c.insert.new.self.items c.set_far.new.late place room k c.self.invariant.ascends c.in-Some.ensures.bound c.in-Some.ensures.place c.in-Some.ensures.none c.self.invariant.fits less done (c.set_far.ensures.unset c.if-set_far.false) in
    omega (arith, put.fits, c.self.invariant.spare_room)

pub invariant_of-self-2 : goal.invariant_of-self-2
invariant_of-self-2 c =
    let keys = c.self.inside.keys.items in
    let late = c.self.inside.late in
    let k = c.args.k.now in
    let room = c.self.inside.room in
    let place = c.in-Some.place in
    let less = subst (λ (m : Marked). has_key m.keys k ≡ false → length m.keys < m.room) (sym c.self.view_is) c.requires.room in
    let done : length keys < room → c.insert.new.self.items ≡ insert keys place k = λ fewer. grind (arith, c.insert.ensures.full, c.insert.ensures.items, c.self.invariant.room, fewer) in
    let put = put-in keys late c.insert.new.self.items c.set_far.new.late place room k c.self.invariant.ascends c.in-Some.ensures.bound c.in-Some.ensures.place c.in-Some.ensures.none c.self.invariant.fits less done (c.set_far.ensures.unset c.if-set_far.false) in
    let gathered = c.gather_if_full.ensures in
    record {
      ascends = gathered.ascends;
      spare = gathered.spare;
      room = gathered.capacity room (omega (arith, c.self.invariant.room, c.insert.ensures.capacity)) c.self.invariant.spare_room;
      spare_room = gathered.spare_capacity room (omega (arith, c.self.invariant.room, c.insert.ensures.capacity)) c.self.invariant.spare_room;
      fits = omega (arith, put.fits, ap length gathered.keys);
    }

pub returns-clause-marked : goal.returns-clause-marked
returns-clause-marked c = λ q.
    let keys = c.self.inside.keys.items in
    let late = c.self.inside.late in
    let k = c.args.k.now in
    let room = c.self.inside.room in
    let place = c.in-Some.place in
    let less = subst (λ (m : Marked). has_key m.keys k ≡ false → length m.keys < m.room) (sym c.self.view_is) c.requires.room in
    let done : length keys < room → c.insert.new.self.items ≡ insert keys place k = λ fewer. grind (arith, c.insert.ensures.full, c.insert.ensures.items, c.self.invariant.room, fewer) in
    let put = put-in keys late c.insert.new.self.items c.set_far.new.late place room k c.self.invariant.ascends c.in-Some.ensures.bound c.in-Some.ensures.place c.in-Some.ensures.none c.self.invariant.fits less done (c.set_far.ensures.unset c.if-set_far.false) in
    let new = in_order (c.gather_if_full.new.keys.items ++ c.gather_if_full.new.late) in
    subst (λ (m : Marked). has_key new q ≡ (is_same k q || has_key m.keys q)) c.self.view_is (ap (λ ks. has_key ks q) c.gather_if_full.ensures.keys ∙ put.marks q)

-- a key that is not among those in order is not marked, where there are no late marks
unmarked-alone : (ks late : List Key) (k : Key) → Ascends ks → late ≡ [] → has_key ks k ≡ false → has_key (in_order (ks ++ late)) k ≡ false
unmarked-alone ks late k up none free = rw (none, in_order-alone ks up) free

pub returns-then-set_far-clause-fresh : goal.returns-then-set_far-clause-fresh
returns-then-set_far-clause-fresh c = λ fresh.
    let keys = c.self.inside.keys.items in
    let free = unmarked-alone keys c.self.inside.late c.args.k.now c.self.invariant.ascends (c.is_empty-fresh.ensures fresh) c.in-Some.ensures.none in
    subst (λ (m : Marked). has_key m.keys c.args.k.now ≡ false) c.self.view_is free

pub returns-clause-fresh : goal.returns-clause-fresh
returns-clause-fresh c = λ fresh.
    let keys = c.self.inside.keys.items in
    let free = unmarked-alone keys c.self.inside.late c.args.k.now c.self.invariant.ascends (c.is_empty-fresh.ensures fresh) c.in-Some.ensures.none in
    subst (λ (m : Marked). has_key m.keys c.args.k.now ≡ false) c.self.view_is free
