use Rattle.std.proofs.Common.{refl}
use Rattle.commands.proofs.Endings.{not-error}
use Rattle.commands.proofs.FollowEndings.{follow-load-exit, follow-memory-exit, follow-stopped, follow-words-exit, follow-written, taken-by}
use Rattle.commands.proofs.Tables.{was-loaded}
use Rattle.commands.proofs.following.follow_words.Goals as goal

pub returns-in-Err : goal.returns-in-Err
returns-in-Err g c = record { run = follow-words-exit c.in-Err.fault _ c.from.ensures refl refl c.in-Err.ensures.usage }

pub returns-in-Err-load_asked : goal.returns-in-Err-load_asked
returns-in-Err-load_asked g c = record {
  run =
      let fails = c.in-Err-load_asked.ensures in
      follow-load-exit c.in-Ok.ensures.ok c.in-Err-load_asked.error _ c.feed_stop.ensures fails.exact fails.failed fails.answered;
}

pub returns-in_err-head : goal.returns-in_err-head
returns-in_err-head g c = record {
  run = follow-memory-exit c.from_residual.result c.in-Ok.ensures.ok c.from_residual.ensures.1 (c.in-Ok-load_asked.ensures.answered (not-error _ _));
}

pub returns-in-Ok-follow_journal : goal.returns-in-Ok-follow_journal
returns-in-Ok-follow_journal g c =
    let was = was-loaded c.in-Ok.ensures.ok c.in-Ok-load_asked.ensures.exact c.in-Ok-load_asked.ensures.network in
    let loads = c.in-Ok-load_asked.ensures.answered (not-error _ _) in
    let followed = c.in-Ok-follow_journal.ensures.followed in
    let took = taken-by was c.args.budget _ _ c.in_ok-head.head _ followed.0 c.in_ok-head.ensures followed.1 in
    record {
      run =
          follow-written was loads took c.in-Ok-follow_journal.ensures.reads c.write_table.result c.run_of.result c.run_of.ensures
          c.write_table.ensures.ok c.write_table.ensures.front c.write_table.ensures.fault c.write_table.ensures.writes c.write_table.ensures.full;
    }

pub returns-in-Err-follow_journal : goal.returns-in-Err-follow_journal
returns-in-Err-follow_journal g c =
    let was = was-loaded c.in-Ok.ensures.ok c.in-Ok-load_asked.ensures.exact c.in-Ok-load_asked.ensures.network in
    let loads = c.in-Ok-load_asked.ensures.answered (not-error _ _) in
    let followed = c.in-Err-follow_journal.ensures.followed in
    let took = taken-by was c.args.budget _ _ c.in_ok-head.head _ followed.0 c.in_ok-head.ensures followed.1 in
    record { run = follow-stopped was loads c.in-Err-follow_journal.fault c.follow_stop.result c.follow_stop.ensures followed.0 took c.in-Err-follow_journal.ensures.reads }
