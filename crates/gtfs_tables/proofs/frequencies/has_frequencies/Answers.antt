use Rattle.gtfs_tables.proofs.Words.{arith, fields_of}
use Rattle.gtfs_tables.proofs.FrequencyLemmas.{second_record}
use Rattle.gtfs_tables.proofs.frequencies.has_frequencies.Goals as goal

pub returns-then-not-branch : goal.returns-then-not-branch
returns-then-not-branch c = λ all are.
    let none = (rw c.if-not-branch.true at c.in_ok-next_record.ensures.steps) all (c.make_reader-reader.ensures.all all are) in
    grind (arith, none)

pub returns : goal.returns
returns c = λ all are.
    let split = (rw c.if-not-branch.false at c.in_ok-next_record.ensures.steps) all (c.make_reader-reader.ensures.all all are) in
    second_record c.next_record-2.result c.next_record.new.reader c.next_record-2.new.reader _ (fields_of c.next_record-2.new.fields) all split.0 split.1 split.2 c.next_record-2.ensures.steps c.next_record-2.ensures.memory
