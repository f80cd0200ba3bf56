use Rattle.timetable.proofs.Words.{sym}
use Rattle.timetable.proofs.Listing.{keys-first}
use Rattle.timetable.proofs.events.live_keys.Goals as goal

pub returns : goal.returns
returns c = rw (c.events.ensures, c.new.ensures) (sym (keys-first c.args.trains.now))
