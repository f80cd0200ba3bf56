use Rattle.watch_answers.proofs.Alike.{watched-alike}
use Rattle.watch_answers.proofs.lines.WatchLinesAnswerLinesWatch.networks_are_written_alike.Goals as goal

pub returns : goal.returns
returns c = watched-alike
