use Rattle.std.proofs.Common.{◌≡◌, Ok, sym, ap, subst}
use Rattle.delay_model.specs.declared.network.Network.{Network}
use Rattle.information_service.specs.Networks.{IsSame}
use Rattle.information_service.specs.ServiceState.{ServiceState}
use Rattle.command_words.specs.Held.{asked_view}
use Rattle.commands.specs.Feeds.{network, asked_in}
use Rattle.commands.proofs.feed.load_service.Goals as goal

pub returns-clause-network : goal.returns-clause-network
returns-clause-network g c = λ told rows is are.
    subst (λ (n : Network). IsSame (network rows c.args.asked.now.opts) n) (sym (ap (λ (s : ServiceState). s.network) c.in_ok-build.ensures))
    (c.in_ok-loaded.ensures.network told rows is are)

pub returns-clause-exact : goal.returns-clause-exact
returns-clause-exact g c = λ told is.
    subst (λ (s : ServiceState). asked_in told (asked_view c.args.asked.now) ≡ Ok (s.state, s.names)) (sym c.in_ok-build.ensures)
    (c.in_ok-loaded.ensures.exact told is)
