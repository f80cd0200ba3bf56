-- What the first word asks for.
use Rattle.std.proofs.Common.{◌≡◌, ◌∙◌, ℕ, List, sym, subst}
use Rattle.command_words.specs.declared.words.Command.{Command}
use Rattle.commands.specs.Commands.{MeetsContractOf, command_named, work_for, work_of}
use Rattle.commands.specs.Seen.{FeedSeen, StreamSeen}
use Rattle.commands.specs.declared.status.Status.{Status}

-- a run that meets the contract of this command meets that of what the words ask for, where this is
-- the command that they name
pub by-command : {F S K : Type 0} (budget : ℕ) (words : List (List ℕ)) (feed : FeedSeen) (input out err : StreamSeen) (feed_old feed_new : F) (input_old input_new : S) (out_old out_new : K)
    (status : Status) (command is : Command) → command ≡ command_named words → command ≡ is
    → MeetsContractOf (work_of is) budget words feed input out err feed_old feed_new input_old input_new out_old out_new status
    → MeetsContractOf (work_for words) budget words feed input out err feed_old feed_new input_old input_new out_old out_new status
by-command budget words feed input out err feed_old feed_new input_old input_new out_old out_new status command is named same meets =
    subst (λ (x : Command). MeetsContractOf (work_of x) budget words feed input out err feed_old feed_new input_old input_new out_old out_new status) (sym same ∙ named) meets
