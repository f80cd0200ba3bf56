use Rattle.std.proofs.Common.{◌^◌}
use Rattle.serde_json.specs.View.{view}
use Rattle.message_reader.proofs.FewItems.{few-read}
use Rattle.message_reader.proofs.lines.json.Goals as goal

pub returns-in-Ok-clause-few : goal.returns-in-Ok-clause-few
returns-in-Ok-clause-few c = few-read (2 ^ 31) c.args.text.now (view c.in-Ok.value) c.requires.few c.in-Ok.ensures.ok
