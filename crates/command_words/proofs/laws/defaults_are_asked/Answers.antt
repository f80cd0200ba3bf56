use Rattle.std.proofs.Common.{refl}
use Rattle.clap.proofs.OnLiterals.{clap_on_literals}
use Rattle.mt_base.specs.Texts.{date_of, eight_digits}
use Rattle.gtfs_tables.specs.Fields.{digits_after}
use Rattle.command_words.specs.Commands.{command_app, plans_app}
use Rattle.command_words.specs.Words.{asked_of, command_asked, command_of}
use Rattle.command_words.proofs.laws.defaults_are_asked.Goals as goal

pub returns : goal.returns
unfolding asked_of command_asked command_of command_app plans_app clap_on_literals date_of eight_digits digits_after
returns c = (refl, refl, refl, refl, refl, refl, refl, refl, refl)
