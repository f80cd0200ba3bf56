use Rattle.call_lines.proofs.Words.{◌≡◌, length, arith, slice_get_within, nat_tests}
use Rattle.call_lines.proofs.PartLemmas.{begins, ends}
use Rattle.call_lines.proofs.parts.replace.Goals as goal

pub join-requires : goal.join-requires
join-requires c = grind (arith, begins c.requires.part, ends c.requires.part)

pub returns-clause-replaced : goal.returns-clause-replaced
returns-clause-replaced c =
    let first : c.len-first.result ≡ length c.args.calls.now.items = omega arith in
    let joined = rw first at c.join.ensures.joined in
    grind (arith, nat_tests, joined, c.take_out.ensures.out, c.push_via.ensures.appended, begins c.requires.part, ends c.requires.part, slice_get_within c.args.via.now)
