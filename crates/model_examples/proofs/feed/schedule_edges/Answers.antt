use Rattle.model_examples.proofs.Words.{◌∙◌, ap, events}
use Rattle.delay_model.specs.Events.{events_from}
use Rattle.model_examples.proofs.feed.schedule_edges.Goals as goal

pub list_edges-requires-clause-all : goal.list_edges-requires-clause-all
unfolding events
list_edges-requires-clause-all c = c.deref.ensures.value ∙ c.in_ok-events.ensures ∙ ap (events_from 0) c.as_slice.ensures
