use Rattle.commands.proofs.FollowStatuses.{follow-contract-met}
use Rattle.commands.proofs.following.run_follow.Goals as goal

pub returns : goal.returns
returns g c = record { contract = follow-contract-met c.follow_words-run.result c.tell.result c.follow_words-run.ensures.run c.tell.ensures.status c.tell.ensures.told }
