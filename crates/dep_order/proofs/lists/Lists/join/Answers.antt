use Rattle.dep_order.proofs.Words.{arith}
use Rattle.dep_order.proofs.StoredLemmas.{end-there, end-within, same-end}
use Rattle.dep_order.proofs.lists.Lists.join.Goals as goal

pub set_next-requires : goal.set_next-requires
set_next-requires c = record { bucket = c.requires.bucket; number = end-within c.args.self.now c.args.before c.requires.before }

pub set_previous-requires : goal.set_previous-requires
set_previous-requires c = record {
  bucket = omega (arith, c.requires.bucket, c.set_next.ensures.buckets);
  number = same-end c.args.self.now c.set_next.new.self c.args.after c.set_next.ensures.entries c.requires.after;
  before = end-there c.args.self.now c.args.before c.requires.few c.requires.before;
}
