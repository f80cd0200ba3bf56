use Rattle.query_crew.proofs.ServedLemmas.{none-served, window-more, input-served}
use Rattle.query_crew.proofs.served_laws.one_window_more_is_served.Goals as goal

pub returns : goal.returns
returns c = record {
  none = λ nw names st. none-served nw names st;
  more = λ nw names st ws window bytes replies served one. window-more nw names st ws window bytes replies served one;
  input = λ nw names st ws last bytes replies read served one. input-served nw names st ws last bytes replies read served one;
}
