use Rattle.watch_answers.proofs.messages.TellAlertsFollowMessagesWatchRowsAlert.follow.Given as goal

abbrev pub ghosts-tell_alerts : goal.ghosts-tell_alerts
ghosts-tell_alerts a = record { name = a.blank.name; parts = a.blank.parts }
