use Rattle.commands.proofs.Endings.{early-run}
use Rattle.commands.proofs.Exits.{kept-end}
use Rattle.commands.proofs.Tables.{by-no_line}
use Rattle.commands.proofs.run.answer_words.Goals as goal

pub answer_input-requires-clause-fits : goal.answer_input-requires-clause-fits
answer_input-requires-clause-fits g c = let begins = c.in_ok-begun.ensures.begins in c.requires.fits begins.asked begins.table begins.service _ begins.is

pub returns-in_err-begun : goal.returns-in_err-begun
returns-in_err-begun g c = record {
  run = early-run (by-no_line g.L.LoadBehind.behind g.T.AnswerLines.output) c.from_residual.result c.in_err-begun.field-0.0 c.from_residual.ensures.1 c.in_err-begun.ensures.stopped;
}

pub returns : goal.returns
returns g c = record {
  run =
      kept-end c.in_ok-begun.ensures.begun c.in_ok-begun.ensures.answered c.run_of.result c.answer_input.result c.run_of.ensures
      c.answer_input.ensures.ok c.answer_input.ensures.ended c.answer_input.ensures.stopped c.answer_input.ensures.front c.answer_input.ensures.counts;
}
