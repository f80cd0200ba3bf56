use Rattle.std.proofs.Common.{sym}
use Rattle.message_reader.proofs.FlatLemmas.{whole-number}
use Rattle.message_reader.proofs.flat.whole.Goals as goal

pub returns : goal.returns
returns c =
    let plain = sym c.if-has_minus.ensures in
    rw c.as_bytes-bytes.ensures.value at (whole-number c.as_bytes-bytes.result.now c.to_u64.result plain (rw c.scan.ensures.parts at c.to_u64.ensures))
