use Rattle.std.proofs.Common.{◌∷◌, [], codes, ap, ◌∙◌, ◌++◌, ℕ}
use Rattle.std.specs.Prelude.{decimal}
use Rattle.feed_gen.specs.Lines.{text_of}
use Rattle.feed_gen.specs.Trains.{stop_of}
use Rattle.feed_gen.proofs.LineTexts.{line-appended}
use Rattle.feed_gen.proofs.lines.push_query.Goals as goal

pub returns-clause-items : goal.returns-clause-items
unfolding text_of
returns-clause-items c =
    line-appended c.args.held.now.items (codes "{\"v\":1,\"type\":\"query\",\"client\":\"q\",\"from\":\"S") (decimal (stop_of c.args.train 0)) (codes "\",\"to\":\"S") (decimal (stop_of c.args.train 3)) (codes "\",\"date\":\"20260105\",\"time\":\"04:00:00\"}") (10 ∷ []) _ _ _ _ _
    c.push_bytes.ensures.items (c.push_number.ensures.items ∙ ap (λ (n : ℕ). c.push_bytes.new.held.items ++ decimal n) c.stop_of.ensures) c.push_bytes-2.ensures.items (c.push_number-2.ensures.items ∙ ap (λ (n : ℕ). c.push_bytes-2.new.held.items ++ decimal n) c.stop_of-2.ensures) c.push_bytes-3.ensures.items
