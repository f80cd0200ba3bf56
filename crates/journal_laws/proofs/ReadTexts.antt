-- Each string in the value that a text in UTF-8 is, is in UTF-8.
use Rattle.std.proofs.Common.{◌≡◌, ℕ, zero, suc, ◌-◌, ◌==◌, ◌&&◌, nat_eq, cond, Bool, true, false, List, [], ◌∷◌, ◌++◌, length, take, drop}
use Rattle.std.proofs.Common.{Option, Some, None, IsUtf8, refl, sym, subst, append_assoc, arith}
use Rattle.std.proofs.lemmas.Bool.{cond_both}
use Rattle.std.proofs.lemmas.Bool.Decides.{nat_tests}
use Rattle.std.proofs.lemmas.Str.{IsUtf8-from_is_utf8}
use Rattle.std.specs.List.{starts_with}
use Rattle.std.specs.Prelude.{⊤}
use Rattle.std.specs.Str.{is_utf8}
use Rattle.json.specs.Token.{Token}
use Rattle.json.specs.Text.{content, plain}
use Rattle.json.specs.Ascii.{false_text, null_text, true_text}
use Rattle.json.specs.Word.{after_number, ends_word, head, literal, number_before, word}
use Rattle.json.specs.Lex.{Lexeme, token, comma, colon, Class, quote, backslash, operator, space, other, class, operator_lexeme, string_token, Mode, between, in_word, in_string, in_escape}
use Rattle.json.specs.Lex.{lex_byte, lex, Place, fresh, after_value, after_comma, after_key, begins_colon, may_begin, may_close, if_allowed, place_token, punctuate, tokens}
use Rattle.json.specs.Json as json
use Rattle.json.specs.Json.{Parse, parse_map, after_end_array, read_key, items_step, members_step, items, members, value_with, value}
use Rattle.serde_json.specs.Data as made
use Rattle.serde_json.specs.Data.{put}
use Rattle.serde_json.specs.Find.{as_array, as_str, get, get_member}
use Rattle.serde_json.specs.Read.{of_json, of_items, of_members, max_depth, read}
use Rattle.message_reader.specs.Fields.{items_at, text_at}
use Rattle.journal_laws.proofs.Texts.{If, any, chained, made-by, string-text}

-- ---- the tokens of a text

-- a string that is a value is a text; nothing is asked of keys, whose texts no message has
abbrev IsTextToken : Token → Type 0
IsTextToken (Token.string s) = IsUtf8 s
IsTextToken _ = ⊤

abbrev TextTokens : List Token → Type 0
TextTokens [] = ⊤
TextTokens (t ∷ ts) = IsTextToken t × TextTokens ts

abbrev IsTextLexeme : Lexeme → Type 0
IsTextLexeme (token t) = IsTextToken t
IsTextLexeme comma = ⊤
IsTextLexeme colon = ⊤

abbrev TextLexemes : List Lexeme → Type 0
TextLexemes [] = ⊤
TextLexemes (l ∷ ls) = IsTextLexeme l × TextLexemes ls

-- a word is neither a string nor a key
abbrev pub IsWordToken : Token → Type 0
IsWordToken (Token.key s) = ⊥
IsWordToken (Token.string s) = ⊥
IsWordToken _ = ⊤

abbrev pub IsWordLexeme : Lexeme → Type 0
IsWordLexeme (token t) = IsWordToken t
IsWordLexeme comma = ⊤
IsWordLexeme colon = ⊤

literal-is : (name t : List ℕ) (b : Token) → IsWordToken b → IsWordToken (literal name b t)
literal-is name t b is = cond_both (starts_with nat_eq t name && ends_word (drop (length name) t)) b Token.bad IsWordToken (λ e. is) (λ e. tt)

ended-is : (b : Bool) (s : List ℕ) → IsWordToken (cond b (Token.number s) Token.bad)
ended-is true s = tt
ended-is false s = tt

number-is : (t : List ℕ) (o : Option (List ℕ)) → IsWordToken (number_before t o)
number-is t None = tt
number-is t (Some rest) = ended-is (ends_word rest) (take (length t - length rest) t)

one-of : (a b c : Bool) (w x y z : Token) → IsWordToken w → IsWordToken x → IsWordToken y → IsWordToken z → IsWordToken (cond a w (cond b x (cond c y z)))
one-of true b c w x y z first second third fourth = first
one-of false true c w x y z first second third fourth = second
one-of false false true w x y z first second third fourth = third
one-of false false false w x y z first second third fourth = fourth

pub word-is : (t : List ℕ) → IsWordToken (word t)
unfolding word
word-is t =
    one-of (head t == 116) (head t == 102) (head t == 110) (literal true_text (Token.boolean true) t) (literal false_text (Token.boolean false) t)
    (literal null_text Token.null t) (number_before t (after_number t))
    (literal-is true_text t (Token.boolean true) tt) (literal-is false_text t (Token.boolean false) tt) (literal-is null_text t Token.null tt) (number-is t (after_number t))

operators : (a b c d e : Bool)
    → IsWordLexeme (cond a (token Token.begin_object) (cond b (token Token.end_object) (cond c (token Token.begin_array) (cond d (token Token.end_array) (cond e comma colon)))))
operators true b c d e = tt
operators false true c d e = tt
operators false false true d e = tt
operators false false false true e = tt
operators false false false false true = tt
operators false false false false false = tt

pub operator-is : (x : ℕ) → IsWordLexeme (operator_lexeme x)
operator-is x = operators (x == 123) (x == 125) (x == 91) (x == 93) (x == 44)

word-text : (t : Token) → IsWordToken t → IsTextToken t
word-text Token.begin_object is = tt
word-text Token.end_object is = tt
word-text Token.begin_array is = tt
word-text Token.end_array is = tt
word-text (Token.key s) is = tt
word-text (Token.string s) is = absurd is
word-text (Token.number s) is = tt
word-text (Token.boolean b) is = tt
word-text Token.null is = tt
word-text Token.bad is = tt

operator-text : (l : Lexeme) → IsWordLexeme l → IsTextLexeme l
operator-text (token t) is = word-text t is
operator-text comma is = tt
operator-text colon is = tt

quoted : (o : Option (List ℕ)) → If IsUtf8 o → IsTextToken (string_token o)
quoted None h = tt
quoted (Some s) h = h

byte-texts : (m : Mode) (c : Class) (x : ℕ) (xs : List ℕ) (k : Mode → List Lexeme)
    → (c ≡ quote → If IsUtf8 (content plain xs)) → ((next : Mode) → TextLexemes (k next)) → TextLexemes (lex_byte m c x xs k)
byte-texts between quote x xs k held rest = (quoted (content plain xs) (held refl), rest in_string)
byte-texts between backslash x xs k held rest = (tt, rest in_word)
byte-texts between operator x xs k held rest = (operator-text (operator_lexeme x) (operator-is x), rest between)
byte-texts between space x xs k held rest = rest between
byte-texts between other x xs k held rest = (word-text (word (x ∷ xs)) (word-is (x ∷ xs)), rest in_word)
byte-texts in_word quote x xs k held rest = rest in_word
byte-texts in_word backslash x xs k held rest = rest in_word
byte-texts in_word operator x xs k held rest = (operator-text (operator_lexeme x) (operator-is x), rest between)
byte-texts in_word space x xs k held rest = rest between
byte-texts in_word other x xs k held rest = rest in_word
byte-texts in_string quote x xs k held rest = rest between
byte-texts in_string backslash x xs k held rest = rest in_escape
byte-texts in_string operator x xs k held rest = rest in_string
byte-texts in_string space x xs k held rest = rest in_string
byte-texts in_string other x xs k held rest = rest in_string
byte-texts in_escape c x xs k held rest = rest in_string

quote-is : (x : ℕ) → class x ≡ quote → x ≡ 34
quote-is x is = grind (arith, nat_tests)

lexemes-texts : (m : Mode) (front xs : List ℕ) → IsUtf8 (front ++ xs) → TextLexemes (lex m xs)
unfolding lex
lexemes-texts m front [] text = tt
lexemes-texts m front (x ∷ xs) text =
    byte-texts m (class x) x xs (λ next. lex next xs) (λ is. string-text front xs (subst (λ (y : ℕ). IsUtf8 (front ++ y ∷ xs)) (quote-is x is) text))
    (λ next. lexemes-texts next (front ++ x ∷ []) xs (subst IsUtf8 (sym (append_assoc front (x ∷ []) xs)) text))

allowed-texts : (b : Bool) (t : Token) (k : Place → List Token) (next : Place) → IsTextToken t → TextTokens (k next) → TextTokens (if_allowed b t k next)
allowed-texts true t k next is rest = (is, rest)
allowed-texts false t k next is rest = (tt, tt)

place-texts : (p : Place) (t : Token) (b : Bool) (k : Place → List Token) → IsTextToken t → ((next : Place) → TextTokens (k next)) → TextTokens (place_token p t b k)
place-texts p Token.begin_object b k is rest = allowed-texts (may_begin p) Token.begin_object k fresh tt (rest fresh)
place-texts p Token.end_object b k is rest = allowed-texts (may_close p) Token.end_object k after_value tt (rest after_value)
place-texts p Token.begin_array b k is rest = allowed-texts (may_begin p) Token.begin_array k fresh tt (rest fresh)
place-texts p Token.end_array b k is rest = allowed-texts (may_close p) Token.end_array k after_value tt (rest after_value)
place-texts p (Token.key s) b k is rest = (tt, tt)
place-texts p (Token.string s) true k is rest = allowed-texts (may_begin p) (Token.key s) k after_key tt (rest after_key)
place-texts p (Token.string s) false k is rest = allowed-texts (may_begin p) (Token.string s) k after_value is (rest after_value)
place-texts p (Token.number s) b k is rest = allowed-texts (may_begin p) (Token.number s) k after_value tt (rest after_value)
place-texts p (Token.boolean v) b k is rest = allowed-texts (may_begin p) (Token.boolean v) k after_value tt (rest after_value)
place-texts p Token.null b k is rest = allowed-texts (may_begin p) Token.null k after_value tt (rest after_value)
place-texts p Token.bad b k is rest = (tt, tt)

tokens-texts : (p : Place) (ls : List Lexeme) → TextLexemes ls → TextTokens (punctuate p ls)
unfolding punctuate
tokens-texts fresh [] h = tt
tokens-texts after_value [] h = tt
tokens-texts after_comma [] h = (tt, tt)
tokens-texts after_key [] h = (tt, tt)
tokens-texts fresh (token t ∷ ls) h = place-texts fresh t (begins_colon ls) (λ next. punctuate next ls) h.0 (λ next. tokens-texts next ls h.1)
tokens-texts after_value (token t ∷ ls) h = place-texts after_value t (begins_colon ls) (λ next. punctuate next ls) h.0 (λ next. tokens-texts next ls h.1)
tokens-texts after_comma (token t ∷ ls) h = place-texts after_comma t (begins_colon ls) (λ next. punctuate next ls) h.0 (λ next. tokens-texts next ls h.1)
tokens-texts after_key (token t ∷ ls) h = place-texts after_key t (begins_colon ls) (λ next. punctuate next ls) h.0 (λ next. tokens-texts next ls h.1)
tokens-texts fresh (comma ∷ ls) h = (tt, tt)
tokens-texts after_value (comma ∷ ls) h = tokens-texts after_comma ls h.1
tokens-texts after_comma (comma ∷ ls) h = (tt, tt)
tokens-texts after_key (comma ∷ ls) h = (tt, tt)
tokens-texts fresh (colon ∷ ls) h = (tt, tt)
tokens-texts after_value (colon ∷ ls) h = (tt, tt)
tokens-texts after_comma (colon ∷ ls) h = (tt, tt)
tokens-texts after_key (colon ∷ ls) h = tokens-texts fresh ls h.1

-- ---- the value that is read of tokens

abbrev mutual
  TextJson : json.Json → Type 0
  TextJson json.null = ⊤
  TextJson (json.boolean b) = ⊤
  TextJson (json.number s) = ⊤
  TextJson (json.string s) = IsUtf8 s
  TextJson (json.array js) = TextJsons js
  TextJson (json.object ms) = TextFields ms

  TextJsons : json.Items → Type 0
  TextJsons json.no_items = ⊤
  TextJsons (json.item j js) = TextJson j × TextJsons js

  TextFields : json.Members → Type 0
  TextFields json.no_members = ⊤
  TextFields (json.member k j ms) = TextJson j × TextFields ms

-- what was read, and the tokens that are left
abbrev TextRead : {A : Type 0} → (A → Type 0) → Option (A × List Token) → Type 0
TextRead P o = If (λ q. P q.0 × TextTokens q.1) o

mapped : {A B : Type 0} (P : A → Type 0) (Q : B → Type 0) (f : A → B) → ((a : A) → P a → Q (f a)) → (o : Option (A × List Token)) → TextRead P o → TextRead Q (parse_map f o)
mapped P Q f k None h = tt
mapped P Q f k (Some q) h = (k q.0 h.0, h.1)

end-texts : (ts : List Token) → TextTokens ts → If TextTokens (after_end_array ts)
end-texts [] h = tt
end-texts (Token.begin_object ∷ ts) h = tt
end-texts (Token.end_object ∷ ts) h = tt
end-texts (Token.begin_array ∷ ts) h = tt
end-texts (Token.end_array ∷ ts) h = h.1
end-texts (Token.key s ∷ ts) h = tt
end-texts (Token.string s ∷ ts) h = tt
end-texts (Token.number s ∷ ts) h = tt
end-texts (Token.boolean b ∷ ts) h = tt
end-texts (Token.null ∷ ts) h = tt
end-texts (Token.bad ∷ ts) h = tt

key-texts : (ts : List Token) → TextTokens ts → TextRead (λ _. ⊤) (read_key ts)
key-texts [] h = tt
key-texts (Token.begin_object ∷ ts) h = tt
key-texts (Token.end_object ∷ ts) h = (tt, h.1)
key-texts (Token.begin_array ∷ ts) h = tt
key-texts (Token.end_array ∷ ts) h = tt
key-texts (Token.key s ∷ ts) h = (tt, h.1)
key-texts (Token.string s ∷ ts) h = tt
key-texts (Token.number s ∷ ts) h = tt
key-texts (Token.boolean b ∷ ts) h = tt
key-texts (Token.null ∷ ts) h = tt
key-texts (Token.bad ∷ ts) h = tt

abbrev Keeps : {A : Type 0} → (A → Type 0) → Parse A → Type 0
Keeps P parse = (ts : List Token) → TextTokens ts → TextRead P (parse ts)

module _ (p : Parse json.Json) (keeps : Keeps TextJson p) where
  items-step : (more : Parse json.Items) → Keeps TextJsons more
      → (ts : List Token) → TextTokens ts → (o : Option (List Token)) → If TextTokens o → TextRead TextJsons (items_step p more ts o)
  items-step more again ts h (Some rest) e = (tt, e)
  items-step more again ts h None e =
      chained (λ q. TextJson q.0 × TextTokens q.1) (λ q. TextJsons q.0 × TextTokens q.1) _
      (λ q one. mapped TextJsons TextJsons (json.item q.0) (λ js all. (one.0, all)) (more q.1) (again q.1 one.1)) (p ts) (keeps ts h)

  items-keep : (n : ℕ) → Keeps TextJsons (items p n)
  unfolding items
  items-keep zero ts h = tt
  items-keep (suc n) ts h = items-step (items p n) (items-keep n) ts h (after_end_array ts) (end-texts ts h)

  members-step : (more : Parse json.Members) → Keeps TextFields more → (key : Option (List ℕ)) (ts : List Token) → TextTokens ts → TextRead TextFields (members_step p more key ts)
  members-step more again None ts h = (tt, h)
  members-step more again (Some k) ts h =
      chained (λ q. TextJson q.0 × TextTokens q.1) (λ q. TextFields q.0 × TextTokens q.1) _
      (λ q one. mapped TextFields TextFields (json.member k q.0) (λ ms all. (one.0, all)) (more q.1) (again q.1 one.1)) (p ts) (keeps ts h)

  members-keep : (n : ℕ) → Keeps TextFields (members p n)
  unfolding members
  members-keep zero ts h = tt
  members-keep (suc n) ts h =
      chained (λ q. ⊤ × TextTokens q.1) (λ q. TextFields q.0 × TextTokens q.1) _ (λ q rest. members-step (members p n) (members-keep n) q.0 q.1 rest.1) (read_key ts) (key-texts ts h)

with-keeps : (a : Parse json.Items) (o : Parse json.Members) → Keeps TextJsons a → Keeps TextFields o → Keeps TextJson (value_with a o)
with-keeps a o all each [] h = tt
with-keeps a o all each (Token.begin_object ∷ ts) h = mapped TextFields TextJson json.object (λ ms is. is) (o ts) (each ts h.1)
with-keeps a o all each (Token.end_object ∷ ts) h = tt
with-keeps a o all each (Token.begin_array ∷ ts) h = mapped TextJsons TextJson json.array (λ js is. is) (a ts) (all ts h.1)
with-keeps a o all each (Token.end_array ∷ ts) h = tt
with-keeps a o all each (Token.key s ∷ ts) h = tt
with-keeps a o all each (Token.string s ∷ ts) h = h
with-keeps a o all each (Token.number s ∷ ts) h = (tt, h.1)
with-keeps a o all each (Token.boolean b ∷ ts) h = (tt, h.1)
with-keeps a o all each (Token.null ∷ ts) h = (tt, h.1)
with-keeps a o all each (Token.bad ∷ ts) h = tt

value-keeps : (d : ℕ) → Keeps TextJson (value d)
unfolding value
value-keeps zero ts h = with-keeps (λ ts. None) (λ ts. None) (λ ts h. tt) (λ ts h. tt) ts h
value-keeps (suc d) ts h =
    with-keeps (λ ts. items (value d) (length ts) ts) (λ ts. members (value d) (length ts) ts)
    (λ ts. items-keep (value d) (value-keeps d) (length ts) ts) (λ ts. members-keep (value d) (value-keeps d) (length ts) ts) ts h

-- ---- the value that is made of it

abbrev mutual
  pub TextData : made.Data → Type 0
  TextData made.null = ⊤
  TextData (made.boolean b) = ⊤
  TextData (made.number n) = ⊤
  TextData (made.string s) = IsUtf8 s
  TextData (made.array ds) = TextItems ds
  TextData (made.object ms) = TextMembers ms

  pub TextItems : made.Items → Type 0
  TextItems made.no_items = ⊤
  TextItems (made.item d ds) = TextData d × TextItems ds

  pub TextMembers : made.Members → Type 0
  TextMembers made.no_members = ⊤
  TextMembers (made.member k d ms) = TextData d × TextMembers ms

text-put : (k : List ℕ) (d : made.Data) (ms : made.Members) → TextData d → TextMembers ms → TextMembers (put k d ms)
text-put k d made.no_members one rest = (one, tt)
text-put k d (made.member l e ms) one rest = grind (arith, text-put k d ms)

mutual
  data-made : (j : json.Json) → TextJson j → If TextData (of_json j)
  data-made json.null h = tt
  data-made (json.boolean b) h = tt
  data-made (json.number s) h = made-by (λ _. ⊤) TextData made.number (λ n is. tt) _ (any _)
  data-made (json.string s) h = h
  data-made (json.array js) h = made-by TextItems TextData made.array (λ ds is. is) (of_items js) (items-made js h)
  data-made (json.object ms) h = made-by TextMembers TextData made.object (λ es is. is) (of_members ms made.no_members) (members-made ms made.no_members h tt)

  items-made : (js : json.Items) → TextJsons js → If TextItems (of_items js)
  items-made json.no_items h = tt
  items-made (json.item j js) h =
      chained TextData TextItems _ (λ d one. made-by TextItems TextItems (made.item d) (λ ds all. (one, all)) (of_items js) (items-made js h.1)) (of_json j) (data-made j h.0)

  members-made : (ms : json.Members) (found : made.Members) → TextFields ms → TextMembers found → If TextMembers (of_members ms found)
  members-made json.no_members found h so_far = so_far
  members-made (json.member k j ms) found h so_far = chained TextData TextMembers _ (λ d one. members-made ms (put k d found) h.1 (text-put k d found one so_far)) (of_json j) (data-made j h.0)

last-text : (j : json.Json) (ts : List Token) → TextJson j → If TextJson (json.if_last j ts)
last-text j [] h = h
last-text j (t ∷ ts) h = tt

pub texts-read : (text : List ℕ) → is_utf8 text ≡ true → If TextData (read text)
texts-read text is =
    let all : TextTokens (tokens text) = tokens-texts fresh (lex between text) (lexemes-texts between [] text (IsUtf8-from_is_utf8 text is)) in
    chained TextJson TextData of_json data-made _
    (chained (λ q. TextJson q.0 × TextTokens q.1) TextJson _ (λ q h. last-text q.0 q.1 h.0) (value max_depth (tokens text)) (value-keeps max_depth (tokens text) all))

-- ---- the members of an object

member-text : (k : List ℕ) (ms : made.Members) → TextMembers ms → If TextData (get_member k ms)
member-text k made.no_members h = tt
member-text k (made.member l d ms) h = grind (arith, member-text k ms)

pub get-text : (k : List ℕ) (d : made.Data) → TextData d → If TextData (get k d)
get-text k made.null h = tt
get-text k (made.boolean b) h = tt
get-text k (made.number n) h = tt
get-text k (made.string s) h = tt
get-text k (made.array ds) h = tt
get-text k (made.object ms) h = member-text k ms h

str-text : (d : made.Data) → TextData d → If IsUtf8 (as_str d)
str-text made.null h = tt
str-text (made.boolean b) h = tt
str-text (made.number n) h = tt
str-text (made.string s) h = h
str-text (made.array ds) h = tt
str-text (made.object ms) h = tt

array-text : (d : made.Data) → TextData d → If TextItems (as_array d)
array-text made.null h = tt
array-text (made.boolean b) h = tt
array-text (made.number n) h = tt
array-text (made.string s) h = tt
array-text (made.array ds) h = h
array-text (made.object ms) h = tt

-- the text of a member
pub text-in : (k : List ℕ) (d : made.Data) → TextData d → If IsUtf8 (text_at k d)
text-in k d h = chained TextData IsUtf8 as_str str-text (get k d) (get-text k d h)

-- the list of a member
pub items-in : (k : List ℕ) (d : made.Data) → TextData d → If TextItems (items_at k d)
items-in k d h = chained TextData TextItems as_array array-text (get k d) (get-text k d h)
