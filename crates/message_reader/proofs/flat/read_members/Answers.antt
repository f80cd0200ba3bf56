use Rattle.std.proofs.Common.{◌≡◌, ◌-◌, ◌∷◌, Some, None, sym, ap, ◌∙◌, arith}
use Rattle.json.specs.Json.{members, read_key, value}
use Rattle.json.specs.Reads.{token_of}
use Rattle.json.proofs.Grammar.{read_key-shorter}
use Rattle.serde_json.specs.Data.{put}
use Rattle.serde_json.specs.Read.{converted, of_members}
use Rattle.message_reader.specs.Flat.{flat_members, scalar_data}
use Rattle.message_reader.proofs.FlatLemmas.{member-read, members-over}
use Rattle.message_reader.proofs.flat.read_members.Goals as goal

pub loop-name-preserved : goal.loop-name-preserved
loop-name-preserved c =
    let l = c.loop-name in
    let n = l.invariant.0 in
    let old = flat_members l.object in
    let k = c.in-Some.name.now in
    let t = token_of c.in_ok-next.field-0 in
    let r = c.next.new.self in
    let d = scalar_data c.in_ok-scalar.scalar in
    let key : read_key l.reader ≡ Some (Some k, t ∷ r) = grind arith in
    let less = read_key-shorter l.reader (Some k) (t ∷ r) key in
    let added : put k d old ≡ flat_members c.put.new.self = sym (c.put.ensures ∙ ap (λ name. put name d old) c.in_ok-key.ensures) in (
      n - 1,
      omega (arith, l.invariant.1),
      l.invariant.2 ∙ member-read old n k l.reader r t d (omega (arith, l.invariant.1)) key c.in_ok-scalar.ensures
          ∙ ap (λ ms. converted (λ read. of_members read ms) (members (value 126) (n - 1) r)) added,
    )

pub returns : goal.returns
returns c =
    let l = c.loop-name in
    let key : read_key l.reader ≡ Some (None, c.next_key.new.self) = grind arith in
    l.invariant.2 ∙ members-over (flat_members l.object) l.invariant.0 l.reader c.next_key.new.self l.invariant.1 key
