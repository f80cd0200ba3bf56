use Rattle.std.proofs.Common.{◌∷◌, [], codes, ap, ◌∙◌, ◌++◌, List, ℕ}
use Rattle.std.specs.Prelude.{decimal}
use Rattle.feed_gen.specs.Lines.{text_of}
use Rattle.feed_gen.specs.Texts.{clock}
use Rattle.feed_gen.specs.Trains.{forecast_time}
use Rattle.feed_gen.proofs.LineTexts.{line-appended}
use Rattle.feed_gen.proofs.lines.push_forecast.Goals as goal

pub returns-clause-items : goal.returns-clause-items
unfolding text_of
returns-clause-items c =
    let shown = c.clock.ensures ∙ ap clock c.forecast_time.ensures in
    line-appended c.args.held.now.items (codes "{\"v\":1,\"type\":\"forecast\",\"trip\":\"G") (decimal c.args.train) (codes "\",\"date\":\"20260105\",\"call\":1,\"event\":\"arr\",\"time\":\"") (clock (forecast_time c.args.train)) (codes "\"}") (10 ∷ []) _ _ _ _ _
    c.push_bytes.ensures.items c.push_number.ensures.items c.push_bytes-2.ensures.items (c.push_bytes-3.ensures.items ∙ ap (λ (l : List ℕ). c.push_bytes-2.new.held.items ++ l) shown) c.push_bytes-4.ensures.items
