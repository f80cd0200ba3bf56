-- Lines of JSON with two plain texts in them.
use Rattle.std.proofs.Common.{◌≡◌, ◌≤◌, List, [], ◌∷◌, ◌++◌, Ok, Some, option_and_then, sym, ap, ◌∙◌, append_assoc, append-nil, true, ℕ}
use Rattle.std.proofs.lemmas.Str.{IsUtf8-append, IsUtf8-from_ascii, is_utf8-from_IsUtf8}
use Rattle.json.specs.Json as json
use Rattle.json.specs.Json.{Json}
use Rattle.json.specs.Print.{ArePrintable, escape, print}
use Rattle.json.specs.Tree as tree
use Rattle.json.proofs.Printed.Tokens.{tokens-print}
use Rattle.json.proofs.Printed.Trees.{value-json_tokens}
use Rattle.json.proofs.Printed.Utf8.{IsUtf8-are_ascii, are_ascii}
use Rattle.serde_json.specs.Data.{Data}
use Rattle.serde_json.specs.Read.{max_depth, of_json, read}
use Rattle.message_reader.specs.declared.wire.Line.{Line}
use Rattle.message_reader.specs.Lines.{line_of, said_by_value}
use Rattle.feed_gen_laws.proofs.PlainTexts.{IsPlain, escape-plain, plain-ascii}

-- what is printed of a value is read as it
read-printed : (j : Json) (d : Data) → ArePrintable (tree.json_tokens j) → tree.depth j ≤ max_depth → of_json j ≡ Some d → read (print (tree.json_tokens j)) ≡ Some d
read-printed j d printable shallow is =
    let ts = tree.json_tokens j in
    ap (λ us. option_and_then of_json (option_and_then (λ p. json.if_last p.0 p.1) (json.value max_depth us))) (tokens-print ts printable ∙ sym (append-nil ts))
    ∙ ap (λ o. option_and_then of_json (option_and_then (λ p. json.if_last p.0 p.1) o)) (value-json_tokens j max_depth [] shallow) ∙ is

-- 34 is `"`
module _ (before s between t behind : List ℕ) (plain-s : IsPlain s) (plain-t : IsPlain t) where
  -- a line that is printed of a value with two plain texts says what the value says
  pub line-said : (j : Json) (d : Data) (line : Line) → are_ascii before ≡ true → are_ascii between ≡ true → are_ascii behind ≡ true
      → print (tree.json_tokens j) ≡ before ++ ((escape s ++ 34 ∷ []) ++ (between ++ ((escape t ++ 34 ∷ []) ++ behind)))
      → ArePrintable (tree.json_tokens j) → tree.depth j ≤ max_depth → of_json j ≡ Some d → said_by_value d ≡ Ok line
      → line_of (before ++ (s ++ (34 ∷ between ++ (t ++ 34 ∷ behind)))) ≡ Ok line
  unfolding line_of
  line-said j d line a b c printed printable shallow is said =
      let text = before ++ (s ++ (34 ∷ between ++ (t ++ 34 ∷ behind))) in
      let same : print (tree.json_tokens j) ≡ text = printed ∙ rw (escape-plain s plain-s, escape-plain t plain-t) (simp append_assoc) in
      let utf8 =
      IsUtf8-append before _ (IsUtf8-are_ascii before a) (IsUtf8-append s _ (IsUtf8-from_ascii s (plain-ascii s plain-s))
      (IsUtf8-append (34 ∷ between) _ (IsUtf8-are_ascii (34 ∷ between) b) (IsUtf8-append t (34 ∷ behind) (IsUtf8-from_ascii t (plain-ascii t plain-t)) (IsUtf8-are_ascii (34 ∷ behind) c)))) in
      rw (is_utf8-from_IsUtf8 text utf8, sym (ap read same) ∙ read-printed j d printable shallow is) said
