use Rattle.std.proofs.Common.{refl}
use Rattle.message_reader.proofs.FlatLemmas.{get-nested}
use Rattle.message_reader.proofs.flat.FlatObjectHasMembers.items.Goals as goal

pub returns-clause-exact : goal.returns-clause-exact
returns-clause-exact c = rw (get-nested c.args._key c.args.self.now) refl
