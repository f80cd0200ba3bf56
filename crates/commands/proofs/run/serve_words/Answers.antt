use Rattle.std.proofs.Common.{refl}
use Rattle.commands.proofs.Endings.{lines-end, not-error}
use Rattle.commands.proofs.Exits.{load-exit, words-exit}
use Rattle.commands.proofs.Tables.{by-service, by-served, served-alike, was-loaded}
use Rattle.commands.proofs.run.serve_words.Goals as goal

pub returns-in-Err : goal.returns-in-Err
returns-in-Err g c = record { run = words-exit by-served c.in-Err.fault _ c.from.ensures refl refl c.in-Err.ensures.usage }

pub returns-in-Err-load_asked : goal.returns-in-Err-load_asked
returns-in-Err-load_asked g c = record {
  run =
      let fails = c.in-Err-load_asked.ensures in
      load-exit by-served c.in-Ok.ensures.ok c.in-Err-load_asked.error _ c.feed_stop.ensures fails.exact fails.failed fails.answered;
}

pub returns : goal.returns
returns g c =
    let was = was-loaded c.in-Ok.ensures.ok c.in-Ok-load_asked.ensures.exact c.in-Ok-load_asked.ensures.network in
    record {
      run =
          lines-end (by-service served-alike was) (c.in-Ok-load_asked.ensures.answered (not-error _ _)) c.run_of.result c.write_windows.result c.run_of.ensures
          c.write_windows.ensures.ok c.write_windows.ensures.ended c.write_windows.ensures.stopped c.write_windows.ensures.front c.write_windows.ensures.counts;
    }
