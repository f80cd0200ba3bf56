use Rattle.commands.proofs.GenEndings.{gen-contract-met}
use Rattle.commands.proofs.generated.run_gen.Goals as goal

pub returns : goal.returns
returns g c = record { contract = gen-contract-met c.write_summary-run.result c.tell.result c.write_summary-run.ensures.run c.tell.ensures.status c.tell.ensures.told }
