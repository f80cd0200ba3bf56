use Rattle.std.proofs.Common.{◌≡◌, ◌∙◌, ℕ, List, ap}
use Rattle.std.proofs.lemmas.Result.{on_ok_weaker}
use Rattle.std.specs.Prelude.{decimal}
use Rattle.csv.specs.Writing.{fields_written}
use Rattle.schedule_build.specs.Directory.{trip_of_train, id_of_place}
use Rattle.delay_report.specs.Replies.{event_word}
use Rattle.delay_report.specs.Trains.{date_of_train, clock_of_train}
use Rattle.delay_report.specs.Written.{bytes_of}
use Rattle.delay_report.proofs.RowTexts.{none-yet, one-more, row-ended}
use Rattle.delay_report.proofs.table.push_event.Goals as goal

pub returns-clause-row : goal.returns-clause-row
returns-clause-row c =
    let names = c.args.dir.now in
    let v = c.args.event.now in
    let start : List ℕ = bytes_of c.args.out.now.writer in
    let trip : c.as_bytes.result.now ≡ trip_of_train names v.key.train = c.as_bytes.ensures.value ∙ c.trip_name.ensures in
    let call : c.as_bytes-2.result.now ≡ decimal v.key.label = c.as_bytes-2.ensures.value ∙ c.format.ensures.text ∙ ap decimal c.get.ensures in
    let stop : c.as_bytes-3.result.now ≡ id_of_place names v.stop = c.as_bytes-3.ensures.value ∙ c.stop_name.ensures in
    let event : c.as_bytes-4.result.now ≡ event_word v.key.dep = c.as_bytes-4.ensures.value ∙ c.event_word.ensures in
    let w0 = none-yet start (fields_written c.args.out.now.writer) c.requires.between.fields in
    let w1 = one-more _ _ (trip_of_train names v.key.train) _ _ _ _ w0 c.in_ok-push.ensures.count (rw trip at c.in_ok-push.ensures.bytes) in
    let w2 = one-more _ _ (date_of_train names v.key.train) _ _ _ _ w1 c.in_ok-push-2.ensures.count (rw c.date_of_train.ensures at c.in_ok-push-2.ensures.bytes) in
    let w3 = one-more _ _ (decimal v.key.label) _ _ _ _ w2 c.in_ok-push-3.ensures.count (rw call at c.in_ok-push-3.ensures.bytes) in
    let w4 = one-more _ _ (id_of_place names v.stop) _ _ _ _ w3 c.in_ok-push-4.ensures.count (rw stop at c.in_ok-push-4.ensures.bytes) in
    let w5 = one-more _ _ (event_word v.key.dep) _ _ _ _ w4 c.in_ok-push-5.ensures.count (rw event at c.in_ok-push-5.ensures.bytes) in
    let w6 = one-more _ _ (clock_of_train names v.key.train v.key.time) _ _ _ _ w5 c.in_ok-push_clock.ensures.count (rw c.seconds_on_day.ensures at c.in_ok-push_clock.ensures.bytes) in
    let w7 = one-more _ _ (clock_of_train names v.key.train c.args.time) _ _ _ _ w6 c.in_ok-push_clock-2.ensures.count (rw c.seconds_on_day-2.ensures at c.in_ok-push_clock-2.ensures.bytes) in
    on_ok_weaker c.end.result (λ e. row-ended _ _ _ _ _ _ _ w7 e) c.end.ensures.bytes
