use Rattle.query_crew.proofs.Words.{◌+◌, ◌≤◌, length, IsPrefix, ServiceState, StandsAt}
use Rattle.query_crew.proofs.PostingLemmas.{HasTaken}
use Rattle.query_crew.proofs.posting.post_all.Given as goal

abbrev pub invariant-loop-i : goal.invariant-loop-i
invariant-loop-i g l = record {
  begun : (s : ServiceState) → StandsAt g.H.Opening.opening l.initial.publisher l.initial.directory s
      → (now : ServiceState) × HasTaken g.H.Opening.opening s now l.window.first l.i l.window.lines.now l.initial.publisher l.publisher l.directory l.initial.replies.items l.replies.items;
  later : IsPrefix l.initial.publisher l.publisher;
  few : length l.publisher ≤ length l.initial.publisher + l.i;
}
