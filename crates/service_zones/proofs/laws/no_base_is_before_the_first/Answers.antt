use Rattle.service_zones.proofs.BaseLemmas.{seconds-back}
use Rattle.service_zones.proofs.laws.no_base_is_before_the_first.Goals as goal

pub returns : goal.returns
returns c = seconds-back c.args.zone.now c.args.first
