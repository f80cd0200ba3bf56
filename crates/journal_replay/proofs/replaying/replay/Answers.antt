use Rattle.std.proofs.Common.{[], refl}
use Rattle.journal_replay.proofs.replaying.replay.Goals as goal

pub feed-requires-clause-ready : goal.feed-requires-clause-ready
feed-requires-clause-ready c = λ none. record { service = c.args.service.now; before = []; stands = refl; room = c.requires.room }
