use Rattle.std.proofs.Common.{rules, ◌≡◌, ◌<◌, ◌^◌, Some, IfSome, subst, sym, arith}
use Rattle.serde_json.specs.View.{view, items_view}
use Rattle.message_reader.specs.Fields.{items_at}
use Rattle.message_reader.specs.Messages.{count}
use Rattle.message_reader.proofs.Rest.{count-items}
use Rattle.message_reader.proofs.fields.items_at.Goals as goal

pub returns-clause-few : goal.returns-clause-few
returns-clause-few c =
    let values = c.as_slice.result.now in
    let found : Some (items_view values) ≡ items_at c.args.key.now (view c.args.value.now) = search rules in
    let few : count (items_view values) < 2 ^ 31 = subst (λ o. IfSome o (λ items. count items < 2 ^ 31)) (sym found) (c.requires.few c.args.key.now) in
    omega (arith, count-items values)
