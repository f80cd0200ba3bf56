use Rattle.std.proofs.Common.{◌≡◌, [], ◌∷◌, arith}
use Rattle.json.specs.Lex.{tokens}
use Rattle.json.specs.Token.{Token}
use Rattle.message_reader.specs.Flat.{flat_members, ReadsMembers}
use Rattle.message_reader.proofs.FlatLemmas.{text-is}
use Rattle.message_reader.proofs.flat.read_flat.Goals as goal

pub returns-in-None : goal.returns-in-None
returns-in-None c =
    let rest = c.next.new.self in
    let ms = flat_members c.in_ok-object.object in
    let opened : tokens c.args.text.now ≡ Token.begin_object ∷ rest = grind arith in
    let reads : ReadsMembers rest ms [] = rw c.in-None.ensures.value.0 at c.in_ok-object.ensures in
    text-is c.args.text.now rest ms opened reads
