use Rattle.query_crew.proofs.Words.{◌++◌, ◌∙◌, ap, lines_of, windows_of}
use Rattle.mt_io.proofs.Runs.{ends, stops}
use Rattle.query_crew.proofs.Ends.{read-windows}
use Rattle.query_crew.proofs.laws.windows_are_those_of_the_input.Goals as goal

pub returns : goal.returns
returns c = record {
  cut = λ ws last h. read-windows ws last h;
  whole = λ ws last bytes r h answered done. ap windows_of (ends bytes (lines_of ws ++ last) r answered done) ∙ read-windows ws last h;
  stopped = λ ws last bytes r h answered not_yet none. ap windows_of (stops bytes (lines_of ws ++ last) r answered not_yet none) ∙ read-windows ws last h;
}
