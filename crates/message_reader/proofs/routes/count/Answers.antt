use Rattle.message_reader.proofs.Rest.{count-items}
use Rattle.message_reader.proofs.routes.count.Goals as goal

pub returns-clause-counted : goal.returns-clause-counted
returns-clause-counted c = count-items c.args.values.now
