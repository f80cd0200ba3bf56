use Rattle.std.proofs.Common.{refl}
use Rattle.commands.proofs.loading.fetch.Goals as goal

pub returns-in_ok-long_line-in-Err-TooLong-clause-named : goal.returns-in_ok-long_line-in-Err-TooLong-clause-named
returns-in_ok-long_line-in-Err-TooLong-clause-named g c = (c.in-Some.name.now, rw c.in-Some.is refl, rw c.into_bytes.ensures.value c.in_ok-long_line-in-Err-TooLong.ensures)
