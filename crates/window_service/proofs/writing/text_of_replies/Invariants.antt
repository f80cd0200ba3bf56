use Rattle.std.proofs.Common.{◌≡◌, ◌++◌, drop}
use Rattle.query_crew.specs.Served.{text_of_replies}
use Rattle.window_service.proofs.writing.text_of_replies.Given as goal

abbrev pub invariant-loop-reply : goal.invariant-loop-reply
invariant-loop-reply l =
    l.text.items ++ text_of_replies l.directory (drop l.reply-index l.replies) ≡ text_of_replies l.directory l.replies
