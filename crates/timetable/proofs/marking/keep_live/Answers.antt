use Rattle.std.proofs.Common.{rules}
use Rattle.std.proofs.lemmas.Fn.{always_returns_same}
use Rattle.timetable.proofs.Words.{is_live, node_of}
use Rattle.timetable.proofs.marking.keep_live.Goals as goal

pub returns-clause-keys : goal.returns-clause-keys
returns-clause-keys c =
    c.retain.ensures.keys (λ k. is_live c.args.trains.now (node_of k)) (always_returns_same _ _ _ (λ a r f h. search rules))
