use Rattle.std.proofs.Common.{refl}
use Rattle.commands.proofs.Endings.{lines-end, not-error}
use Rattle.commands.proofs.Exits.{load-exit, words-exit}
use Rattle.commands.proofs.Tables.{by-service, by-times, times-alike, was-loaded}
use Rattle.commands.proofs.run.times_words.Goals as goal

pub returns-in-Err : goal.returns-in-Err
returns-in-Err g c = record { run = words-exit by-times c.in-Err.fault _ c.from.ensures refl refl c.in-Err.ensures.usage }

pub returns-in-Err-load_service : goal.returns-in-Err-load_service
returns-in-Err-load_service g c = record {
  run =
      let fails = c.in-Err-load_service.ensures in
      load-exit by-times c.in-Ok.ensures.ok c.in-Err-load_service.error _ c.feed_stop.ensures fails.exact fails.failed fails.answered;
}

pub returns : goal.returns
returns g c =
    let was = was-loaded c.in-Ok.ensures.ok c.in-Ok-load_service.ensures.exact c.in-Ok-load_service.ensures.network in
    record {
      run =
          lines-end (by-service times-alike was) (c.in-Ok-load_service.ensures.answered (not-error _ _)) c.run_of.result c.write_output.result c.run_of.ensures
          c.write_output.ensures.ok c.write_output.ensures.ended c.write_output.ensures.stopped c.write_output.ensures.front c.write_output.ensures.counts;
    }
