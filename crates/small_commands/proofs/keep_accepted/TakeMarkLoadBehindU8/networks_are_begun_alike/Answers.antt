use Rattle.std.proofs.Common.{◌≡◌, ℕ, Option, Some, None, Ok, ap, refl}
use Rattle.delay_model.specs.declared.network.Network.{Network}
use Rattle.information_service.specs.Networks.{over}
use Rattle.information_service.specs.ServiceState.{ServiceState}
use Rattle.commands.specs.LineTasks.{Start, begun_over}
use Rattle.small_commands.specs.SmallCommands.{begun_with, mark_of}
use Rattle.small_commands.proofs.keep_accepted.TakeMarkLoadBehindU8.networks_are_begun_alike.Goals as goal

alike : (nw : Network) (t : ServiceState) (mark : Option ℕ) → begun_with (over nw t) mark ≡ begun_over nw (begun_with t mark)
alike nw t (Some mark) = refl
alike nw t None = refl

keeps : (t : ServiceState) (mark : Option ℕ) (s : Start ℕ) → begun_with t mark ≡ Ok s → s.service.network ≡ t.network
keeps t (Some mark) s is = cc
keeps t None s is = absurd cc

pub returns : goal.returns
returns c = record {
  alike = λ nw asked table t same. alike nw t (mark_of table);
  keeps = λ asked table t s is. keeps t (mark_of table) s is;
}
