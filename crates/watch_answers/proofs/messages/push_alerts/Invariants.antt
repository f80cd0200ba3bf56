use Rattle.std.proofs.Common.{◌≡◌, ◌++◌, drop}
use Rattle.watch_answers.specs.WatchedMessages.{texts_of_alerts}
use Rattle.watch_answers.proofs.messages.push_alerts.Given as goal

-- what is written, and the lines that are left, are all lines
abbrev pub invariant-loop-alert : goal.invariant-loop-alert
invariant-loop-alert l =
    l.text.items ++ texts_of_alerts l.directory l.line (drop l.alert-index l.alerts) ≡ l.initial.text.items ++ texts_of_alerts l.directory l.line l.alerts
