-- Questions beside all other lines.
use Rattle.std.proofs.Common.{◌≡◌, ℕ, List, Bool, true, false, Option, None, Some, Result, Ok, Err, refl, codes, arith}
use Rattle.std.proofs.lemmas.Slice.Eq.{bytes_eq-Decides}
use Rattle.std.specs.Option.{option_map_or}
use Rattle.std.specs.Prelude.{bytes_eq, ◌||◌, if◌then◌else◌}
use Rattle.serde_json.specs.Data.{Data}
use Rattle.message_reader.specs.declared.bad_line.BadLine.{BadLine}
use Rattle.message_reader.specs.declared.bad_line.BadLine.TheVariants.{Shape}
use Rattle.message_reader.specs.Chain.{◌>>=◌, need, unless}
use Rattle.message_reader.specs.Fields.{text_at, number_at}
use Rattle.message_reader.specs.Kinds.{kind_of, has_version}
use Rattle.message_reader.specs.Lines.{value_of, utf8_of, json_of, head_of, message_of, said_by_value, line_of}
use Rattle.desk_lines.specs.DeskLines.{as_desk_line, departures_said, desk_line_of, desk_said, event_said, has_type, is_question_in, line_said}

-- ---- what is no question

chosen-same : (d : Data) (departures why : Bool) → (departures || why) ≡ false → (if departures then departures_said d else (if why then event_said d else line_said d)) ≡ line_said d
chosen-same d false false other = refl
chosen-same d false true other = grind arith
chosen-same d true why other = grind arith

values-same : (value : Result Data BadLine) → is_question_in value ≡ false → (value >>= desk_said) ≡ as_desk_line (value >>= said_by_value)
unfolding desk_said line_said
values-same (Ok d) other = chosen-same d (has_type (codes "departures") d) (has_type (codes "why") d) other
values-same (Err bad) other = refl

texts-same : (text : Result (List ℕ) BadLine) → is_question_in (text >>= json_of) ≡ false → ((text >>= json_of) >>= desk_said) ≡ as_desk_line (text >>= λ t. json_of t >>= said_by_value)
texts-same (Ok t) other = values-same (json_of t) other
texts-same (Err bad) other = refl

pub lines-same : (bytes : List ℕ) → is_question_in (value_of bytes) ≡ false → desk_line_of bytes ≡ as_desk_line (line_of bytes)
unfolding desk_line_of value_of line_of
lines-same bytes other = texts-same (utf8_of bytes) other

-- ---- questions

named : (name word : List ℕ) → bytes_eq name word ≡ true → name ≡ word
named name word same = grind (arith, bytes_eq-Decides name word, same)

no-kind : (name : List ℕ) (departures why : Bool) → bytes_eq name (codes "departures") ≡ departures → bytes_eq name (codes "why") ≡ why → (departures || why) ≡ true → kind_of name ≡ None
unfolding kind_of
no-kind name true why is _ either = rw (named name (codes "departures") is) refl
no-kind name false true _ is either = rw (named name (codes "why") is) refl
no-kind name false false _ _ either = grind arith

-- the type of an object that has one
abbrev pub names_question : Option (List ℕ) → Bool
names_question name = option_map_or (λ text. bytes_eq text (codes "departures")) name false || option_map_or (λ text. bytes_eq text (codes "why")) name false

head-bad : (version : Option ℕ) (name : Option (List ℕ)) → names_question name ≡ true
    → (need Shape version >>= λ v. need Shape name >>= λ n. need Shape (kind_of n) >>= λ kind. unless (has_version kind v) Shape >>= λ _. Ok kind) ≡ Err Shape
head-bad None name question = refl
head-bad (Some v) None question = refl
head-bad (Some v) (Some name) question =
    rw (no-kind name (bytes_eq name (codes "departures")) (bytes_eq name (codes "why")) refl refl question) refl

next-bad : {A B : Type 0} (x : Result A BadLine) (next : A → Result B BadLine) → x ≡ Err Shape → (x >>= next) ≡ Err Shape
next-bad x next is = rw is refl

value-bad : (value : Result Data BadLine) → is_question_in value ≡ true → (value >>= said_by_value) ≡ Err Shape
unfolding said_by_value head_of
value-bad (Ok d) question = next-bad _ (λ kind. message_of kind d) (head-bad (number_at (codes "v") d) (text_at (codes "type") d) question)
value-bad (Err bad) question = grind arith

text-bad : (text : Result (List ℕ) BadLine) → is_question_in (text >>= json_of) ≡ true → (text >>= λ t. json_of t >>= said_by_value) ≡ Err Shape
text-bad (Ok t) question = value-bad (json_of t) question
text-bad (Err bad) question = grind arith

pub line-bad : (bytes : List ℕ) → is_question_in (value_of bytes) ≡ true → line_of bytes ≡ Err Shape
unfolding value_of line_of
line-bad bytes question = text-bad (utf8_of bytes) question
