-- The strings and keys of a value are together no longer than the text that it was read of.
use Rattle.std.proofs.Common.{◌≡◌, ℕ, zero, suc, ◌+◌, ◌≤◌, Bool, true, false, List, [], ◌∷◌, length, Option, Some, None, option_and_then, Ordering, Less, Equal}
use Rattle.std.proofs.Common.{Greater, is_eq, nat_cmp, refl, sym, ap, ◌∙◌, arith}
use Rattle.std.proofs.lemmas.Map.Text.{is_eq-slice_cmp}
use Rattle.std.proofs.lemmas.Slice.Eq.{bytes_eq-Decides}
use Rattle.std.specs.Cmp.Lexicographic.{slice_cmp}
use Rattle.std.specs.Ordering.{match_ordering}
use Rattle.std.specs.Prelude.{⊤}
use Rattle.json.specs.Token.{Token}
use Rattle.json.specs.Text.{content, plain}
use Rattle.json.specs.Word.{word}
use Rattle.json.specs.Align.{span, span_byte}
use Rattle.json.specs.Lex.{Lexeme, token, comma, colon, Class, quote, backslash, operator, space, other, class, operator_lexeme, string_token, Mode, between, in_word, in_string, in_escape}
use Rattle.json.specs.Lex.{lex_byte, lex, Place, fresh, after_value, after_comma, after_key, begins_colon, may_begin, may_close, if_allowed, place_token, punctuate, tokens}
use Rattle.json.specs.Json as json
use Rattle.json.specs.Json.{Parse, parse_map, after_end_array, read_key, items_step, members_step, items, members, value_with, value}
use Rattle.serde_json.specs.Data as made
use Rattle.serde_json.specs.Data.{put}
use Rattle.serde_json.specs.Find.{as_array, as_str, get, get_member}
use Rattle.serde_json.specs.Read.{of_json, of_items, of_members, max_depth, read}
use Rattle.message_reader.specs.Fields.{items_at, text_at}
use Rattle.journal_laws.proofs.Spans.{AtMost, content-span}
use Rattle.journal_laws.proofs.Texts.{If, any, chained, looser, made-by}
use Rattle.journal_laws.proofs.ReadTexts.{IsWordLexeme, IsWordToken, operator-is, word-is}

-- ---- the tokens of a text

-- one, and the bytes of a string or a key
abbrev weight : Token → ℕ
weight (Token.key s) = 1 + length s
weight (Token.string s) = 1 + length s
weight _ = 1

abbrev weights : List Token → ℕ
weights [] = 0
weights (t ∷ ts) = weight t + weights ts

abbrev lexeme_weight : Lexeme → ℕ
lexeme_weight (token t) = weight t
lexeme_weight comma = 1
lexeme_weight colon = 1

abbrev lexemes_weight : List Lexeme → ℕ
lexemes_weight [] = 0
lexemes_weight (l ∷ ls) = lexeme_weight l + lexemes_weight ls

word-weight : (t : Token) → IsWordToken t → weight t ≡ 1
word-weight Token.begin_object is = refl
word-weight Token.end_object is = refl
word-weight Token.begin_array is = refl
word-weight Token.end_array is = refl
word-weight (Token.key s) is = absurd is
word-weight (Token.string s) is = absurd is
word-weight (Token.number s) is = refl
word-weight (Token.boolean b) is = refl
word-weight Token.null is = refl
word-weight Token.bad is = refl

operator-weight : (l : Lexeme) → IsWordLexeme l → lexeme_weight l ≡ 1
operator-weight (token t) is = word-weight t is
operator-weight comma is = refl
operator-weight colon is = refl

some-weight : (t : Token) → 1 ≤ weight t
some-weight Token.begin_object = omega arith
some-weight Token.end_object = omega arith
some-weight Token.begin_array = omega arith
some-weight Token.end_array = omega arith
some-weight (Token.key s) = omega arith
some-weight (Token.string s) = omega arith
some-weight (Token.number s) = omega arith
some-weight (Token.boolean b) = omega arith
some-weight Token.null = omega arith
some-weight Token.bad = omega arith

string-weight : (n : ℕ) (o : Option (List ℕ)) → AtMost n o → weight (string_token o) ≤ 1 + n
string-weight n None h = omega arith
string-weight n (Some s) h = omega arith

-- what a byte begins, and the bytes that are passed over behind it
byte-weight : (m : Mode) (c : Class) (x : ℕ) (xs : List ℕ) (k : Mode → List Lexeme) (over : Mode → ℕ) (n : ℕ)
    → AtMost (over in_string) (content plain xs) → over between ≡ 0 → over in_word ≡ 0 → ((next : Mode) → lexemes_weight (k next) + over next ≤ n)
    → lexemes_weight (lex_byte m c x xs k) + span_byte m c over ≤ suc n
byte-weight between quote x xs k over n held idle done rest = omega (arith, string-weight (over in_string) (content plain xs) held, rest in_string)
byte-weight between backslash x xs k over n held idle done rest = omega (arith, rest in_word)
byte-weight between operator x xs k over n held idle done rest = omega (arith, operator-weight (operator_lexeme x) (operator-is x), rest between)
byte-weight between space x xs k over n held idle done rest = omega (arith, rest between)
byte-weight between other x xs k over n held idle done rest = omega (arith, word-weight (word (x ∷ xs)) (word-is (x ∷ xs)), rest in_word)
byte-weight in_word quote x xs k over n held idle done rest = omega (arith, rest in_word)
byte-weight in_word backslash x xs k over n held idle done rest = omega (arith, rest in_word)
byte-weight in_word operator x xs k over n held idle done rest = omega (arith, operator-weight (operator_lexeme x) (operator-is x), rest between)
byte-weight in_word space x xs k over n held idle done rest = omega (arith, rest between)
byte-weight in_word other x xs k over n held idle done rest = omega (arith, rest in_word)
byte-weight in_string quote x xs k over n held idle done rest = omega (arith, rest between)
byte-weight in_string backslash x xs k over n held idle done rest = omega (arith, rest in_escape)
byte-weight in_string operator x xs k over n held idle done rest = omega (arith, rest in_string)
byte-weight in_string space x xs k over n held idle done rest = omega (arith, rest in_string)
byte-weight in_string other x xs k over n held idle done rest = omega (arith, rest in_string)
byte-weight in_escape c x xs k over n held idle done rest = omega (arith, rest in_string)

not-in : (m : Mode) (xs : List ℕ) → ((c : Class) (k : Mode → ℕ) → span_byte m c k ≡ 0) → span m xs ≡ 0
unfolding span
not-in m [] h = refl
not-in m (x ∷ xs) h = h (class x) (λ next. span next xs)

lexemes-weigh : (m : Mode) (xs : List ℕ) → lexemes_weight (lex m xs) + span m xs ≤ length xs
unfolding lex span
lexemes-weigh m [] = omega arith
lexemes-weigh m (x ∷ xs) =
    byte-weight m (class x) x xs (λ next. lex next xs) (λ next. span next xs) (length xs) (content-span plain xs) (not-in between xs (λ c k. refl)) (not-in in_word xs (λ c k. refl))
    (λ next. lexemes-weigh next xs)

allowed-weight : (b : Bool) (t : Token) (k : Place → List Token) (next : Place) (n : ℕ) → weights (k next) ≤ n → weights (if_allowed b t k next) ≤ weight t + n
allowed-weight true t k next n rest = omega arith
allowed-weight false t k next n rest = omega (arith, some-weight t)

place-weight : (p : Place) (t : Token) (b : Bool) (k : Place → List Token) (n : ℕ) → ((next : Place) → weights (k next) ≤ n) → weights (place_token p t b k) ≤ weight t + n
place-weight p Token.begin_object b k n rest = allowed-weight (may_begin p) Token.begin_object k fresh n (rest fresh)
place-weight p Token.end_object b k n rest = allowed-weight (may_close p) Token.end_object k after_value n (rest after_value)
place-weight p Token.begin_array b k n rest = allowed-weight (may_begin p) Token.begin_array k fresh n (rest fresh)
place-weight p Token.end_array b k n rest = allowed-weight (may_close p) Token.end_array k after_value n (rest after_value)
place-weight p (Token.key s) b k n rest = omega arith
place-weight p (Token.string s) true k n rest = allowed-weight (may_begin p) (Token.key s) k after_key n (rest after_key)
place-weight p (Token.string s) false k n rest = allowed-weight (may_begin p) (Token.string s) k after_value n (rest after_value)
place-weight p (Token.number s) b k n rest = allowed-weight (may_begin p) (Token.number s) k after_value n (rest after_value)
place-weight p (Token.boolean v) b k n rest = allowed-weight (may_begin p) (Token.boolean v) k after_value n (rest after_value)
place-weight p Token.null b k n rest = allowed-weight (may_begin p) Token.null k after_value n (rest after_value)
place-weight p Token.bad b k n rest = omega arith

tokens-weigh : (p : Place) (ls : List Lexeme) → weights (punctuate p ls) ≤ 1 + lexemes_weight ls
unfolding punctuate
tokens-weigh fresh [] = omega arith
tokens-weigh after_value [] = omega arith
tokens-weigh after_comma [] = omega arith
tokens-weigh after_key [] = omega arith
tokens-weigh fresh (token t ∷ ls) = omega (arith, place-weight fresh t (begins_colon ls) (λ next. punctuate next ls) (1 + lexemes_weight ls) (λ next. tokens-weigh next ls))
tokens-weigh after_value (token t ∷ ls) = omega (arith, place-weight after_value t (begins_colon ls) (λ next. punctuate next ls) (1 + lexemes_weight ls) (λ next. tokens-weigh next ls))
tokens-weigh after_comma (token t ∷ ls) = omega (arith, place-weight after_comma t (begins_colon ls) (λ next. punctuate next ls) (1 + lexemes_weight ls) (λ next. tokens-weigh next ls))
tokens-weigh after_key (token t ∷ ls) = omega (arith, place-weight after_key t (begins_colon ls) (λ next. punctuate next ls) (1 + lexemes_weight ls) (λ next. tokens-weigh next ls))
tokens-weigh fresh (comma ∷ ls) = omega arith
tokens-weigh after_value (comma ∷ ls) = omega (arith, tokens-weigh after_comma ls)
tokens-weigh after_comma (comma ∷ ls) = omega arith
tokens-weigh after_key (comma ∷ ls) = omega arith
tokens-weigh fresh (colon ∷ ls) = omega arith
tokens-weigh after_value (colon ∷ ls) = omega arith
tokens-weigh after_comma (colon ∷ ls) = omega arith
tokens-weigh after_key (colon ∷ ls) = omega (arith, tokens-weigh fresh ls)

-- ---- the value that is read of tokens

abbrev mutual
  json_weight : json.Json → ℕ
  json_weight json.null = 1
  json_weight (json.boolean b) = 1
  json_weight (json.number s) = 1
  json_weight (json.string s) = 1 + length s
  json_weight (json.array js) = 1 + jsons_weight js
  json_weight (json.object ms) = 1 + fields_weight ms

  -- with the closing bracket
  jsons_weight : json.Items → ℕ
  jsons_weight json.no_items = 1
  jsons_weight (json.item j js) = json_weight j + jsons_weight js

  fields_weight : json.Members → ℕ
  fields_weight json.no_members = 1
  fields_weight (json.member k j ms) = (1 + length k) + (json_weight j + fields_weight ms)

-- what was read and the tokens that are left weigh no more
abbrev Weighs : {A : Type 0} → (A → ℕ) → ℕ → Option (A × List Token) → Type 0
Weighs w n o = If (λ q. w q.0 + weights q.1 ≤ n) o

end-weighs : (ts : List Token) → If (λ rest. 1 + weights rest ≤ weights ts) (after_end_array ts)
end-weighs [] = tt
end-weighs (Token.begin_object ∷ ts) = tt
end-weighs (Token.end_object ∷ ts) = tt
end-weighs (Token.begin_array ∷ ts) = tt
end-weighs (Token.end_array ∷ ts) = omega arith
end-weighs (Token.key s ∷ ts) = tt
end-weighs (Token.string s ∷ ts) = tt
end-weighs (Token.number s ∷ ts) = tt
end-weighs (Token.boolean b ∷ ts) = tt
end-weighs (Token.null ∷ ts) = tt
end-weighs (Token.bad ∷ ts) = tt

abbrev key_weight : Option (List ℕ) → ℕ
key_weight None = 1
key_weight (Some k) = 1 + length k

key-weighs : (ts : List Token) → Weighs key_weight (weights ts) (read_key ts)
key-weighs [] = tt
key-weighs (Token.begin_object ∷ ts) = tt
key-weighs (Token.end_object ∷ ts) = omega arith
key-weighs (Token.begin_array ∷ ts) = tt
key-weighs (Token.end_array ∷ ts) = tt
key-weighs (Token.key s ∷ ts) = omega arith
key-weighs (Token.string s ∷ ts) = tt
key-weighs (Token.number s ∷ ts) = tt
key-weighs (Token.boolean b ∷ ts) = tt
key-weighs (Token.null ∷ ts) = tt
key-weighs (Token.bad ∷ ts) = tt

mapped : {A B : Type 0} (v : A → ℕ) (w : B → ℕ) (f : A → B) (m n : ℕ) → ((a : A) (rest : ℕ) → v a + rest ≤ m → w (f a) + rest ≤ n) → (o : Option (A × List Token))
    → Weighs v m o → Weighs w n (parse_map f o)
mapped v w f m n k None h = tt
mapped v w f m n k (Some q) h = k q.0 (weights q.1) h

abbrev Keeps : {A : Type 0} → (A → ℕ) → Parse A → Type 0
Keeps w parse = (ts : List Token) → Weighs w (weights ts) (parse ts)

module _ (p : Parse json.Json) (keeps : Keeps json_weight p) where
  items-step : (more : Parse json.Items) → Keeps jsons_weight more → (ts : List Token) (o : Option (List Token)) → If (λ rest. 1 + weights rest ≤ weights ts) o
      → Weighs jsons_weight (weights ts) (items_step p more ts o)
  items-step more again ts (Some rest) e = e
  items-step more again ts None e =
      chained (λ q. json_weight q.0 + weights q.1 ≤ weights ts) (λ q. jsons_weight q.0 + weights q.1 ≤ weights ts) _
      (λ q one. mapped jsons_weight jsons_weight (json.item q.0) (weights q.1) (weights ts) (λ js rest le. omega arith) (more q.1) (again q.1)) (p ts) (keeps ts)

  items-keep : (n : ℕ) → Keeps jsons_weight (items p n)
  unfolding items
  items-keep zero ts = tt
  items-keep (suc n) ts = items-step (items p n) (items-keep n) ts (after_end_array ts) (end-weighs ts)

  members-step : (more : Parse json.Members) → Keeps fields_weight more → (n : ℕ) (key : Option (List ℕ)) (ts : List Token) → key_weight key + weights ts ≤ n
      → Weighs fields_weight n (members_step p more key ts)
  members-step more again n None ts h = h
  members-step more again n (Some k) ts h =
      chained (λ q. json_weight q.0 + weights q.1 ≤ weights ts) (λ q. fields_weight q.0 + weights q.1 ≤ n) _
      (λ q one. mapped fields_weight fields_weight (json.member k q.0) (weights q.1) n (λ ms rest le. omega arith) (more q.1) (again q.1)) (p ts) (keeps ts)

  members-keep : (n : ℕ) → Keeps fields_weight (members p n)
  unfolding members
  members-keep zero ts = tt
  members-keep (suc n) ts =
      chained (λ q. key_weight q.0 + weights q.1 ≤ weights ts) (λ q. fields_weight q.0 + weights q.1 ≤ weights ts) _
      (λ q le. members-step (members p n) (members-keep n) (weights ts) q.0 q.1 le) (read_key ts) (key-weighs ts)

with-keeps : (a : Parse json.Items) (o : Parse json.Members) → Keeps jsons_weight a → Keeps fields_weight o → Keeps json_weight (value_with a o)
with-keeps a o all each [] = tt
with-keeps a o all each (Token.begin_object ∷ ts) = mapped fields_weight json_weight json.object (weights ts) (1 + weights ts) (λ ms rest le. omega arith) (o ts) (each ts)
with-keeps a o all each (Token.end_object ∷ ts) = tt
with-keeps a o all each (Token.begin_array ∷ ts) = mapped jsons_weight json_weight json.array (weights ts) (1 + weights ts) (λ js rest le. omega arith) (a ts) (all ts)
with-keeps a o all each (Token.end_array ∷ ts) = tt
with-keeps a o all each (Token.key s ∷ ts) = tt
with-keeps a o all each (Token.string s ∷ ts) = omega arith
with-keeps a o all each (Token.number s ∷ ts) = omega arith
with-keeps a o all each (Token.boolean b ∷ ts) = omega arith
with-keeps a o all each (Token.null ∷ ts) = omega arith
with-keeps a o all each (Token.bad ∷ ts) = tt

value-keeps : (d : ℕ) → Keeps json_weight (value d)
unfolding value
value-keeps zero ts = with-keeps (λ ts. None) (λ ts. None) (λ ts. tt) (λ ts. tt) ts
value-keeps (suc d) ts =
    with-keeps (λ ts. items (value d) (length ts) ts) (λ ts. members (value d) (length ts) ts)
    (λ ts. items-keep (value d) (value-keeps d) (length ts) ts) (λ ts. members-keep (value d) (value-keeps d) (length ts) ts) ts

-- ---- the value that is made of it

abbrev mutual
  pub data_weight : made.Data → ℕ
  data_weight made.null = 1
  data_weight (made.boolean b) = 1
  data_weight (made.number n) = 1
  data_weight (made.string s) = 1 + length s
  data_weight (made.array ds) = 1 + items_weight ds
  data_weight (made.object ms) = 1 + members_weight ms

  pub items_weight : made.Items → ℕ
  items_weight made.no_items = 0
  items_weight (made.item d ds) = data_weight d + items_weight ds

  pub members_weight : made.Members → ℕ
  members_weight made.no_members = 0
  members_weight (made.member k d ms) = (1 + length k) + (data_weight d + members_weight ms)

abbrev Least : {A : Type 0} → (A → ℕ) → ℕ → A → Type 0
Least w n a = w a ≤ n

weaker : {A : Type 0} (w : A → ℕ) (m n : ℕ) (o : Option A) → m ≤ n → If (Least w m) o → If (Least w n) o
weaker w m n None le h = tt
weaker w m n (Some a) le h = omega arith

same-key : (k l : List ℕ) → slice_cmp nat_cmp k l ≡ Equal → k ≡ l
same-key k l is = (bytes_eq-Decides k l).0 (sym (is_eq-slice_cmp k l) ∙ ap is_eq is)

put-at : (o : Ordering) (k l : List ℕ) (d e : made.Data) (ms more : made.Members) → slice_cmp nat_cmp k l ≡ o
    → members_weight more ≤ (1 + length k) + (data_weight d + members_weight ms)
    → members_weight (match_ordering o (made.member k d (made.member l e ms)) (made.member l d ms) (made.member l e more)) ≤ (1 + length k) + (data_weight d + ((1 + length l) +
    (data_weight e + members_weight ms)))
put-at Less k l d e ms more is le = omega arith
put-at Equal k l d e ms more is le = omega arith
put-at Greater k l d e ms more is le = omega arith

put-weight : (k : List ℕ) (d : made.Data) (ms : made.Members) → members_weight (put k d ms) ≤ (1 + length k) + (data_weight d + members_weight ms)
put-weight k d made.no_members = omega arith
put-weight k d (made.member l e ms) = put-at (slice_cmp nat_cmp k l) k l d e ms (put k d ms) refl (put-weight k d ms)

mutual
  data-made : (j : json.Json) → If (Least data_weight (json_weight j)) (of_json j)
  data-made json.null = omega arith
  data-made (json.boolean b) = omega arith
  data-made (json.number s) = made-by (λ _. ⊤) (Least data_weight 1) made.number (λ n is. omega arith) _ (any _)
  data-made (json.string s) = omega arith
  data-made (json.array js) = made-by (Least items_weight (jsons_weight js)) (Least data_weight (1 + jsons_weight js)) made.array (λ ds le. omega arith) (of_items js) (items-made js)
  data-made (json.object ms) =
      made-by (Least members_weight (fields_weight ms + 0)) (Least data_weight (1 + fields_weight ms)) made.object (λ es le. omega arith) (of_members ms made.no_members)
      (members-made ms made.no_members)

  items-made : (js : json.Items) → If (Least items_weight (jsons_weight js)) (of_items js)
  items-made json.no_items = omega arith
  items-made (json.item j js) =
      chained (Least data_weight (json_weight j)) (Least items_weight (json_weight j + jsons_weight js)) _
      (λ d one. made-by (Least items_weight (jsons_weight js)) (Least items_weight (json_weight j + jsons_weight js)) (made.item d) (λ ds le. omega arith) (of_items js) (items-made js))
      (of_json j) (data-made j)

  members-made : (ms : json.Members) (found : made.Members) → If (Least members_weight (fields_weight ms + members_weight found)) (of_members ms found)
  members-made json.no_members found = omega arith
  members-made (json.member k j ms) found =
      chained (Least data_weight (json_weight j)) (Least members_weight ((1 + length k) + (json_weight j + fields_weight ms) + members_weight found)) _
      (λ d one. weaker members_weight (fields_weight ms + members_weight (put k d found)) ((1 + length k) + (json_weight j + fields_weight ms) + members_weight found) (of_members ms
      (put k d found)) (omega (arith, put-weight k d found)) (members-made ms (put k d found))) (of_json j) (data-made j)

last-weight : (n : ℕ) (j : json.Json) (ts : List Token) → json_weight j + weights ts ≤ n → If (Least json_weight n) (json.if_last j ts)
last-weight n j [] h = omega arith
last-weight n j (t ∷ ts) h = tt

-- the value of a text weighs at most one more than the text is long
pub weight-read : (text : List ℕ) → If (Least data_weight (1 + length text)) (read text)
weight-read text =
    let n : ℕ = 1 + length text in
    let few : weights (tokens text) ≤ n = omega (arith, tokens-weigh fresh (lex between text), lexemes-weigh between text) in
    chained (Least json_weight n) (Least data_weight n) of_json (λ j le. weaker data_weight (json_weight j) n (of_json j) le (data-made j)) _
    (chained (λ q. json_weight q.0 + weights q.1 ≤ weights (tokens text)) (Least json_weight n) _ (λ q h. last-weight n q.0 q.1 (omega arith)) (value max_depth (tokens text))
    (value-keeps max_depth (tokens text)))

-- ---- the members of an object

abbrev WithKey : List ℕ → ℕ → made.Data → Type 0
WithKey k n d = 1 + length k + data_weight d ≤ n

member-at : (o : Ordering) (k l : List ℕ) (d : made.Data) (ms : made.Members) (more : Option made.Data) → slice_cmp nat_cmp k l ≡ o → If (WithKey k (members_weight ms)) more
    → If (WithKey k ((1 + length l) + (data_weight d + members_weight ms))) (match_ordering o more (Some d) more)
member-at Less k l d ms None is h = tt
member-at Less k l d ms (Some e) is h = omega arith
member-at Equal k l d ms more is h = omega (arith, ap length (same-key k l is))
member-at Greater k l d ms None is h = tt
member-at Greater k l d ms (Some e) is h = omega arith

member-weight : (k : List ℕ) (ms : made.Members) → If (WithKey k (members_weight ms)) (get_member k ms)
member-weight k made.no_members = tt
member-weight k (made.member l d ms) = member-at (slice_cmp nat_cmp k l) k l d ms (get_member k ms) refl (member-weight k ms)

pub get-weight : (k : List ℕ) (d : made.Data) → If (λ e. 2 + length k + data_weight e ≤ data_weight d) (get k d)
get-weight k made.null = tt
get-weight k (made.boolean b) = tt
get-weight k (made.number n) = tt
get-weight k (made.string s) = tt
get-weight k (made.array ds) = tt
get-weight k (made.object ms) = heavier (get_member k ms) (member-weight k ms)
  where
    heavier : (o : Option made.Data) → If (WithKey k (members_weight ms)) o → If (λ e. 2 + length k + data_weight e ≤ 1 + members_weight ms) o
    heavier None h = tt
    heavier (Some e) h = omega arith

str-weight : (d : made.Data) → If (λ s. 1 + length s ≤ data_weight d) (as_str d)
str-weight made.null = tt
str-weight (made.boolean b) = tt
str-weight (made.number n) = tt
str-weight (made.string s) = omega arith
str-weight (made.array ds) = tt
str-weight (made.object ms) = tt

array-weight : (d : made.Data) → If (λ ds. items_weight ds ≤ data_weight d) (as_array d)
array-weight made.null = tt
array-weight (made.boolean b) = tt
array-weight (made.number n) = tt
array-weight (made.string s) = tt
array-weight (made.array ds) = omega arith
array-weight (made.object ms) = tt

-- the text of a member
pub text-weight : (k : List ℕ) (d : made.Data) → If (λ s. 3 + length k + length s ≤ data_weight d) (text_at k d)
text-weight k d =
    chained (λ e. 2 + length k + data_weight e ≤ data_weight d) (λ s. 3 + length k + length s ≤ data_weight d) as_str
    (λ e le. looser (λ s. 1 + length s ≤ data_weight e) (λ s. 3 + length k + length s ≤ data_weight d) (λ s less. omega arith) (as_str e) (str-weight e)) (get k d) (get-weight k d)

-- the list of a member
pub items-weight : (k : List ℕ) (d : made.Data) → If (λ ds. items_weight ds ≤ data_weight d) (items_at k d)
items-weight k d =
    chained (λ e. 2 + length k + data_weight e ≤ data_weight d) (λ ds. items_weight ds ≤ data_weight d) as_array
    (λ e le. looser (λ ds. items_weight ds ≤ data_weight e) (λ ds. items_weight ds ≤ data_weight d) (λ ds less. omega arith) (as_array e) (array-weight e)) (get k d) (get-weight k d)

-- ---- two members of an object

abbrev found_weight : Option made.Data → ℕ
found_weight None = 0
found_weight (Some d) = data_weight d

two-at : (o q : Ordering) (d : made.Data) (a b : Option made.Data) (n : ℕ) → (o ≡ Equal → q ≡ Equal → ⊥) → found_weight a ≤ n → found_weight b ≤ n
    → found_weight a + found_weight b ≤ n
    → found_weight (match_ordering o a (Some d) a) + found_weight (match_ordering q b (Some d) b) ≤ data_weight d + n
two-at Less Less d a b n apart fst snd sum = omega arith
two-at Less Equal d a b n apart fst snd sum = omega arith
two-at Less Greater d a b n apart fst snd sum = omega arith
two-at Equal Less d a b n apart fst snd sum = omega arith
two-at Equal Equal d a b n apart fst snd sum = absurd (apart refl refl)
two-at Equal Greater d a b n apart fst snd sum = omega arith
two-at Greater Less d a b n apart fst snd sum = omega arith
two-at Greater Equal d a b n apart fst snd sum = omega arith
two-at Greater Greater d a b n apart fst snd sum = omega arith

two-members : (k l : List ℕ) → (k ≡ l → ⊥) → (ms : made.Members) → found_weight (get_member k ms) + found_weight (get_member l ms) ≤ members_weight ms
two-members k l apart made.no_members = omega arith
two-members k l apart (made.member m d ms) =
    let rest = two-members k l apart ms in
    let both = two-at (slice_cmp nat_cmp k m) (slice_cmp nat_cmp l m) d (get_member k ms) (get_member l ms) (members_weight ms)
    (λ a b. apart (same-key k m a ∙ sym (same-key l m b))) (omega arith) (omega arith) rest in
    omega arith

two-in : (k l : List ℕ) → (k ≡ l → ⊥) → (d : made.Data) → found_weight (get k d) + found_weight (get l d) ≤ data_weight d
two-in k l apart made.null = omega arith
two-in k l apart (made.boolean b) = omega arith
two-in k l apart (made.number n) = omega arith
two-in k l apart (made.string s) = omega arith
two-in k l apart (made.array ds) = omega arith
two-in k l apart (made.object ms) = omega (arith, two-members k l apart ms)

found-text : (o : Option made.Data) (s : List ℕ) → option_and_then as_str o ≡ Some s → length s ≤ found_weight o
found-text None s is = cc
found-text (Some made.null) s is = cc
found-text (Some (made.boolean b)) s is = cc
found-text (Some (made.number n)) s is = cc
found-text (Some (made.string t)) s is = grind arith
found-text (Some (made.array ds)) s is = cc
found-text (Some (made.object ms)) s is = cc

-- the texts of two members
pub two-texts : (k l : List ℕ) → (k ≡ l → ⊥) → (d : made.Data) (s t : List ℕ) → text_at k d ≡ Some s → text_at l d ≡ Some t → length s + length t ≤ data_weight d
two-texts k l apart d s t first second = omega (arith, two-in k l apart d, found-text (get k d) s first, found-text (get l d) t second)
