use Rattle.conn_scan.proofs.Words.{sym, ◌∙◌}
use Rattle.conn_scan.proofs.trace.ride_before.Goals as goal

pub ride_along-requires : goal.ride_along-requires
ride_along-requires c = c.requires c.args.ride.now.board_stop c.in_ok-get.field-0 c.in_ok-stretch.stretch (sym c.get.ensures ∙ c.in_ok-get.was) (sym c.get-2.ensures ∙ c.in_ok-stretch.was)
