use Rattle.message_reader.proofs.FlatLemmas.{null-is, string-is, number-is}
use Rattle.message_reader.proofs.flat.scalar_of.Goals as goal

pub returns-in-Null : goal.returns-in-Null
returns-in-Null c = rw c.in-Null.is null-is

pub returns-in-String : goal.returns-in-String
returns-in-String c = rw c.in-String.is (string-is c.in-String.text.now)

pub returns-in_ok-whole-in-Number : goal.returns-in_ok-whole-in-Number
returns-in_ok-whole-in-Number c = rw c.in-Number.is (number-is c.in-Number.text.now c.in_ok-whole-in-Number.field-0 c.in_ok-whole-in-Number.ensures)
