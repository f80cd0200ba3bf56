use Rattle.std.proofs.Common.{sym}
use Rattle.message_reader.proofs.FlatLemmas.{get-nested}
use Rattle.message_reader.proofs.flat.FlatObjectHasMembers.nested.Goals as goal

pub returns : goal.returns
returns c = sym (get-nested c.args._key c.args.self.now)
