use Rattle.std.proofs.Common.{ℕ, List, ◌++◌, codes, ap, ◌∙◌}
use Rattle.std.specs.Prelude.{decimal}
use Rattle.feed_gen.specs.Texts.{clock}
use Rattle.feed_gen.specs.Trains.{arrival, departure, stop_of}
use Rattle.feed_gen.proofs.LineTexts.{row-appended}
use Rattle.feed_gen.proofs.tables.push_call.Goals as goal

pub returns : goal.returns
returns c =
    let train : ℕ = c.args.train in
    let call : ℕ = c.args.call in
    let arrives = c.clock.ensures ∙ ap clock c.arrival.ensures.value in
    let departs = c.clock-2.ensures ∙ ap clock c.departure.ensures in
    row-appended c.args.table.now.items (codes "G") (decimal train) (codes ",") (clock (arrival train call)) (codes ",") (clock (departure train call)) (codes ",S") (decimal (stop_of train call)) (codes ",") (decimal call) (codes "\n") _ _ _ _ _ _ _ _ _ _ _
    c.in_ok-extend_from_slice.ensures.items c.in_ok-push_number.ensures c.in_ok-extend_from_slice-2.ensures.items
    (c.in_ok-extend_from_slice-3.ensures.items ∙ ap (λ (l : List ℕ). c.extend_from_slice-2.new.self.items ++ l) arrives)
    c.in_ok-extend_from_slice-4.ensures.items
    (c.in_ok-extend_from_slice-5.ensures.items ∙ ap (λ (l : List ℕ). c.extend_from_slice-4.new.self.items ++ l) departs)
    c.in_ok-extend_from_slice-6.ensures.items
    (c.in_ok-push_number-2.ensures ∙ ap (λ (n : ℕ). c.extend_from_slice-6.new.self.items ++ decimal n) c.stop_of.ensures)
    c.in_ok-extend_from_slice-7.ensures.items c.in_ok-push_number-3.ensures c.in_ok-extend_from_slice-8.ensures.items
