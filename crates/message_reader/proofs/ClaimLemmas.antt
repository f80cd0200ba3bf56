-- Claims beside all other lines.
use Rattle.std.proofs.Common.{◌≡◌, ℕ, List, true, false, Option, None, Some, Result, Ok, Err, refl, ap, codes, arith}
use Rattle.std.proofs.lemmas.Slice.Eq.{bytes_eq-Decides}
use Rattle.std.specs.Option.{option_map_or}
use Rattle.std.specs.Prelude.{bytes_eq}
use Rattle.serde_json.specs.Data.{Data}
use Rattle.schedule_build.specs.Directory.{Names}
use Rattle.message_reader.specs.declared.bad_line.BadLine.{BadLine}
use Rattle.message_reader.specs.declared.bad_line.BadLine.TheVariants.{Shape}
use Rattle.message_reader.specs.declared.kinds.Kind.{Kind}
use Rattle.message_reader.specs.Chain.{◌>>=◌, need, unless}
use Rattle.message_reader.specs.CheckLines.{is_claim_in, as_check_line, line_said, check_said, check_line_of}
use Rattle.message_reader.specs.Fields.{text_at, number_at}
use Rattle.message_reader.specs.Kinds.{kind_of, has_version}
use Rattle.message_reader.specs.Lines.{value_of, utf8_of, json_of, head_of, message_of, said_by_value, line_of}

-- ---- what is no claim

values-same : (names : Names) (value : Result Data BadLine) → is_claim_in value ≡ false → (value >>= check_said names) ≡ as_check_line (value >>= said_by_value)
unfolding check_said line_said
values-same names (Ok d) other = rw other refl
values-same names (Err bad) other = refl

texts-same : (names : Names) (text : Result (List ℕ) BadLine) → is_claim_in (text >>= json_of) ≡ false
    → ((text >>= json_of) >>= check_said names) ≡ as_check_line (text >>= λ t. json_of t >>= said_by_value)
texts-same names (Ok t) other = values-same names (json_of t) other
texts-same names (Err bad) other = refl

pub lines-same : (names : Names) (bytes : List ℕ) → is_claim_in (value_of bytes) ≡ false → check_line_of names bytes ≡ as_check_line (line_of bytes)
unfolding check_line_of value_of line_of
lines-same names bytes other = texts-same names (utf8_of bytes) other

-- ---- claims

named-claim : (name : List ℕ) → bytes_eq name (codes "claim") ≡ true → name ≡ codes "claim"
named-claim name claim = grind (arith, bytes_eq-Decides name (codes "claim"), claim)

head-bad : (version : Option ℕ) (name : Option (List ℕ)) → option_map_or (λ (n : List ℕ). bytes_eq n (codes "claim")) name false ≡ true
    → (need Shape version >>= λ v. need Shape name >>= λ n. need Shape (kind_of n) >>= λ kind. unless (has_version kind v) Shape >>= λ _. Ok kind) ≡ Err Shape
unfolding kind_of
head-bad None name claim = refl
head-bad (Some v) None claim = refl
head-bad (Some v) (Some name) claim = rw (named-claim name claim) refl

value-bad : (value : Result Data BadLine) → is_claim_in value ≡ true → (value >>= said_by_value) ≡ Err Shape
unfolding said_by_value head_of
value-bad (Ok d) claim = ap (λ (kind : Result Kind BadLine). kind >>= λ k. message_of k d) (head-bad (number_at (codes "v") d) (text_at (codes "type") d) claim)
value-bad (Err bad) claim = grind arith

text-bad : (text : Result (List ℕ) BadLine) → is_claim_in (text >>= json_of) ≡ true → (text >>= λ t. json_of t >>= said_by_value) ≡ Err Shape
text-bad (Ok t) claim = value-bad (json_of t) claim
text-bad (Err bad) claim = grind arith

pub line-bad : (bytes : List ℕ) → is_claim_in (value_of bytes) ≡ true → line_of bytes ≡ Err Shape
unfolding value_of line_of
line-bad bytes claim = text-bad (utf8_of bytes) claim
