use Rattle.gtfs_tables.proofs.Words.{ℕ, List, ap, arith, length, fields_of, place_of, records_of}
use Rattle.gtfs_tables.proofs.Records.{header_good, map_joined}
use Rattle.gtfs_tables.proofs.TextRecords.{records_are, records-few}
use Rattle.gtfs_tables.proofs.sheets.Sheet.open.Goals as goal

pub returns-then-not-branch-clause-opens : goal.returns-then-not-branch-clause-opens
returns-then-not-branch-clause-opens c = λ all are.
    let none = (rw c.if-not-branch.true at c.in_ok-next_record.ensures.steps) all (c.make_reader-reader.ensures.all all are) in
    grind (arith, none)

pub returns-in_err-check_header-clause-opens : goal.returns-in_err-check_header-clause-opens
returns-in_err-check_header-clause-opens c = λ all are.
    let split = (rw c.if-not-branch.false at c.in_ok-next_record.ensures.steps) all (c.make_reader-reader.ensures.all all are) in
    grind (arith, split.1)

pub returns-clause-opens : goal.returns-clause-opens
returns-clause-opens c = λ all are.
    let split = (rw c.if-not-branch.false at c.in_ok-next_record.ensures.steps) all (c.make_reader-reader.ensures.all all are) in
    let header : List (List ℕ) = fields_of c.next_record.new.fields in
    let places = map_joined (place_of header) c.args.needed.now c.args.others.now _ _ _ c.new-places.ensures.items c.in_ok-push_places.ensures.places c.in_ok-push_places-2.ensures.places in
    (header, split.0, header_good c.args.needed.now all split.0 header split.1 c.in_ok-check_header.ensures, record { width = c.len-width.ensures; places = places }, split.2)

pub returns-clause-few : goal.returns-clause-few
returns-clause-few c =
    let text : List ℕ = c.args.text.now in
    let split = (rw c.if-not-branch.false at c.in_ok-next_record.ensures.steps) (records_of text) (c.make_reader-reader.ensures.all (records_of text) (records_are text)) in
    (split.0, split.2, omega (arith, records-few text, ap length split.1))
