use Rattle.std.proofs.Common.{◌≡◌, ◌∙◌, ◌∷◌, [], ◌++◌, List, ℕ, Vec, Global, ap, string_bytes}
use Rattle.serde_json.specs.View.{view}
use Rattle.serde_json.specs.Written.{compact_text}
use Rattle.delay_report.proofs.replies.object_text.Goals as goal

pub returns : goal.returns
returns c =
    let text : string_bytes c.in_ok-to_string.field-0 ≡ compact_text (view c.args.value.now) = c.in_ok-to_string.ensures.text c.requires in
    c.in_ok-push.ensures.items ∙ ap (λ (xs : List ℕ). xs ++ 10 ∷ []) (ap (λ (v : Vec ℕ Global). v.items) c.into_bytes-text.ensures.value ∙ text)
