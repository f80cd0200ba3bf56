use Rattle.journal_laws.proofs.Written.{beginning-journal, can-be-written, lines-taken, read-again, torn-read, whole-journal}
use Rattle.journal_laws.proofs.laws.what_journal_writes_is_read_again.Goals as goal

pub returns-clause-whole : goal.returns-clause-whole
returns-clause-whole c = whole-journal

pub returns-clause-beginning : goal.returns-clause-beginning
returns-clause-beginning c = beginning-journal

pub returns-clause-taken : goal.returns-clause-taken
returns-clause-taken c = lines-taken

pub returns-clause-written : goal.returns-clause-written
returns-clause-written c = can-be-written

pub returns-clause-again : goal.returns-clause-again
returns-clause-again c = λ head s lines bytes can all w. read-again head s lines bytes can all (whole-journal head s lines bytes w)

pub returns-clause-begun : goal.returns-clause-begun
returns-clause-begun c = λ head s lines bytes can all b. read-again head s lines bytes can all (beginning-journal head s lines bytes b)

pub returns-clause-torn : goal.returns-clause-torn
returns-clause-torn c = λ head s lines bytes front can all w begins. torn-read head s lines bytes front can all (whole-journal head s lines bytes w) begins
