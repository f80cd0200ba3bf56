-- A list in an object has no more items than the object's text has bytes.
use Rattle.std.proofs.Common.{◌≡◌, ℕ, zero, suc, ◌+◌, ◌<◌, ◌≤◌, Bool, List, [], ◌∷◌, length, Option, Some, None, option_map, option_and_then, IfSome, refl, subst, arith}
use Rattle.std.specs.Prelude.{⊤}
use Rattle.json.specs.Token.{Token}
use Rattle.json.specs.Lex.{Lexeme, Class, class, Mode, between, lex_byte, lex, Place, fresh, if_allowed, place_token, punctuate, tokens}
use Rattle.json.specs.Json as json
use Rattle.json.specs.Json.{Parse, parse_map, after_end_array, read_key, items_step, members_step, items, members, value_with, value}
use Rattle.json.proofs.Grammar.{left, Takes, after_end_array-shorter, read_key-shorter, skip_value-shorter}
use Rattle.serde_json.specs.Data as made
use Rattle.serde_json.specs.Data.{put}
use Rattle.serde_json.specs.Find.{get_member, as_array}
use Rattle.serde_json.specs.Read.{of_json, of_items, of_members, max_depth, read}
use Rattle.message_reader.specs.Fields.{items_at}
use Rattle.message_reader.specs.Messages.{count}

-- ---- the tokens of a text

lexemes-of-byte : (m : Mode) (c : Class) (x : ℕ) (xs : List ℕ) (k : Mode → List Lexeme) (n : ℕ) → ((next : Mode) → length (k next) ≤ n) → length (lex_byte m c x xs k) ≤ suc n
lexemes-of-byte m c x xs k n h = grind (arith, h)

lexemes-of : (m : Mode) (xs : List ℕ) → length (lex m xs) ≤ length xs
unfolding lex
lexemes-of m [] = omega arith
lexemes-of m (x ∷ xs) = lexemes-of-byte m (class x) x xs (λ next. lex next xs) (length xs) (λ next. lexemes-of next xs)

allowed-of : (b : Bool) (t : Token) (k : Place → List Token) (next : Place) (n : ℕ) → length (k next) ≤ n → length (if_allowed b t k next) ≤ suc n
allowed-of b t k next n h = grind arith

tokens-of-token : (p : Place) (t : Token) (b : Bool) (k : Place → List Token) (n : ℕ) → ((next : Place) → length (k next) ≤ n) → length (place_token p t b k) ≤ suc n
tokens-of-token p t b k n h = grind (arith, h, allowed-of)

tokens-of : (p : Place) (ls : List Lexeme) → length (punctuate p ls) ≤ suc (length ls)
unfolding punctuate
tokens-of p [] = grind arith
tokens-of p (l ∷ ls) = grind (arith, tokens-of-token, λ (q : Place). tokens-of q ls)

-- ---- the lists that are read of tokens

count_read : json.Items → ℕ
count_read json.no_items = 0
count_read (json.item j js) = suc (count_read js)

-- with what is left, a list has fewer items than there were tokens
abbrev ItemsFit : ℕ → Option (json.Items × List Token) → Type 0
ItemsFit n None = ⊤
ItemsFit n (Some q) = count_read q.0 + length q.1 < n

with_item : (j : json.Json) (o : Option (json.Items × List Token)) (m n : ℕ) → ItemsFit m o → m < n → ItemsFit n (parse_map (json.item j) o)
unfolding count_read
with_item j o m n h lt = grind arith

then_items : (more : Parse json.Items) (o : Option (json.Json × List Token)) (n : ℕ) → ((ts : List Token) → ItemsFit (length ts) (more ts)) → ((x : List Token) → left o ≡ Some x → length x < n)
    → ItemsFit n (option_and_then (λ q. parse_map (json.item q.0) (more q.1)) o)
then_items more None n fits shorter = tt
then_items more (Some q) n fits shorter = with_item q.0 (more q.1) (length q.1) n (fits q.1) (shorter q.1 refl)

module _ (p : Parse json.Json) (takes : Takes p) where
  item_turn : (more : Parse json.Items) (ts : List Token) (o : Option (List Token))
      → ((s : List Token) → ItemsFit (length s) (more s)) → after_end_array ts ≡ o → ItemsFit (length ts) (items_step p more ts o)
  unfolding count_read
  item_turn more ts (Some r) fits e = omega (arith, after_end_array-shorter ts r e)
  item_turn more ts None fits e = then_items more (p ts) (length ts) fits (takes ts)

  items-fit : (n : ℕ) (ts : List Token) → ItemsFit (length ts) (items p n ts)
  unfolding items
  items-fit zero ts = tt
  items-fit (suc n) ts = item_turn (items p n) ts (after_end_array ts) (items-fit n) refl

-- if it is a list, it has fewer items
abbrev IsFew : ℕ → json.Json → Type 0
IsFew n json.null = ⊤
IsFew n (json.boolean b) = ⊤
IsFew n (json.number s) = ⊤
IsFew n (json.string s) = ⊤
IsFew n (json.array js) = count_read js < n
IsFew n (json.object ms) = ⊤

abbrev AreFew : ℕ → json.Members → Type 0
AreFew n json.no_members = ⊤
AreFew n (json.member k j ms) = IsFew n j × AreFew n ms

abbrev Each : {A : Type 0} → (A → Type 0) → Option (A × List Token) → Type 0
Each P None = ⊤
Each P (Some q) = P q.0

few_array : (n m : ℕ) (o : Option (json.Items × List Token)) → ItemsFit m o → m ≤ n → Each (IsFew n) (parse_map json.array o)
few_array n m o h le = grind arith

few_object : (n : ℕ) (o : Option (json.Members × List Token)) → Each (IsFew n) (parse_map json.object o)
few_object n o = grind arith

one_level : (n : ℕ) (a : Parse json.Items) (o : Parse json.Members) → ((ts : List Token) → ItemsFit (length ts) (a ts)) → (ts : List Token) → length ts ≤ n → Each (IsFew n) (value_with a o ts)
one_level n a o fits ts le = grind (arith, few_object n, few_array n, fits)

value-few : (d n : ℕ) (ts : List Token) → length ts ≤ n → Each (IsFew n) (value d ts)
unfolding value
value-few zero n ts le = one_level n (λ ts. None) (λ ts. None) (λ ts. tt) ts le
value-few (suc d) n ts le = one_level n (λ ts. items (value d) (length ts) ts) (λ ts. members (value d) (length ts) ts) (λ ts. items-fit (value d) (skip_value-shorter d) (length ts) ts) ts le

with_member : (n : ℕ) (k : List ℕ) (j : json.Json) (o : Option (json.Members × List Token)) → IsFew n j → Each (AreFew n) o → Each (AreFew n) (parse_map (json.member k j) o)
with_member n k j o one rest = grind arith

then_members : (n m : ℕ) (k : List ℕ) (more : Parse json.Members) (o : Option (json.Json × List Token)) → Each (IsFew n) o → ((ts : List Token) → length ts ≤ n → Each (AreFew n) (more ts))
    → ((x : List Token) → left o ≡ Some x → length x < m) → m ≤ n → Each (AreFew n) (option_and_then (λ q. parse_map (json.member k q.0) (more q.1)) o)
then_members n m k more o one rest shorter le = grind (arith, with_member n k, rest, shorter)

module _ (n d : ℕ) where
  member_turn : (more : Parse json.Members) (ts : List Token) (o : Option (Option (List ℕ) × List Token))
      → ((s : List Token) → length s ≤ n → Each (AreFew n) (more s)) → length ts ≤ n → read_key ts ≡ o
      → Each (AreFew n) (option_and_then (λ q. members_step (value d) more q.0 q.1) o)
  member_turn more ts None again le e = tt
  member_turn more ts (Some (None, s)) again le e = tt
  member_turn more ts (Some (Some k, s)) again le e =
      let shorter = read_key-shorter ts (Some k) s e in
      then_members n (length s) k more (value d s) (value-few d n s (omega arith)) again (skip_value-shorter d s) (omega arith)

  members-few : (turns : ℕ) (ts : List Token) → length ts ≤ n → Each (AreFew n) (members (value d) turns ts)
  unfolding members
  members-few zero ts le = tt
  members-few (suc turns) ts le = member_turn (members (value d) turns) ts (read_key ts) (members-few turns) le refl

-- each list in the object has fewer items
abbrev HasFew : ℕ → json.Json → Type 0
HasFew n json.null = ⊤
HasFew n (json.boolean b) = ⊤
HasFew n (json.number s) = ⊤
HasFew n (json.string s) = ⊤
HasFew n (json.array js) = ⊤
HasFew n (json.object ms) = AreFew n ms

array_has : (n : ℕ) (o : Option (json.Items × List Token)) → Each (HasFew n) (parse_map json.array o)
array_has n o = grind arith

object_has : (n : ℕ) (o : Option (json.Members × List Token)) → Each (AreFew n) o → Each (HasFew n) (parse_map json.object o)
object_has n o h = grind arith

top_level : (n : ℕ) (a : Parse json.Items) (o : Parse json.Members)
    → ((ts : List Token) → length ts ≤ n → Each (AreFew n) (o ts)) → (ts : List Token) → length ts ≤ n → Each (HasFew n) (value_with a o ts)
top_level n a o few ts le = grind (arith, object_has n, array_has n, few)

value-has : (d n : ℕ) (ts : List Token) → length ts ≤ n → Each (HasFew n) (value d ts)
unfolding value
value-has zero n ts le = top_level n (λ ts. None) (λ ts. None) (λ ts le. tt) ts le
value-has (suc d) n ts le = top_level n (λ ts. items (value d) (length ts) ts) (λ ts. members (value d) (length ts) ts) (λ ts le. members-few n d (length ts) ts le) ts le

-- ---- the lists of the value that is made of it

abbrev If : {A : Type 0} → (A → Type 0) → Option A → Type 0
If P None = ⊤
If P (Some a) = P a

mapped : {A B : Type 0} (P : A → Type 0) (Q : B → Type 0) (f : A → B) → ((a : A) → P a → Q (f a)) → (o : Option A) → If P o → If Q (option_map f o)
mapped P Q f k o h = grind (arith, k)

chained : {A B : Type 0} (P : A → Type 0) (Q : B → Type 0) (f : A → Option B) → ((a : A) → P a → If Q (f a)) → (o : Option A) → If P o → If Q (option_and_then f o)
chained P Q f k o h = grind (arith, k)

any : {A : Type 0} (o : Option A) → If (λ _. ⊤) o
any None = tt
any (Some a) = tt

items-same : (js : json.Items) → If (λ ds. count ds ≡ count_read js) (of_items js)
unfolding count count_read
items-same json.no_items = refl
items-same (json.item j js) = grind (arith, items-same js)

abbrev IsFewOf : ℕ → made.Data → Type 0
IsFewOf n made.null = ⊤
IsFewOf n (made.boolean b) = ⊤
IsFewOf n (made.number x) = ⊤
IsFewOf n (made.string s) = ⊤
IsFewOf n (made.array ds) = count ds < n
IsFewOf n (made.object ms) = ⊤

abbrev AreFewOf : ℕ → made.Members → Type 0
AreFewOf n made.no_members = ⊤
AreFewOf n (made.member k d ms) = IsFewOf n d × AreFewOf n ms

few-of : (n : ℕ) (j : json.Json) → IsFew n j → If (IsFewOf n) (of_json j)
few-of n j h = grind (arith, items-same)

few-put : (n : ℕ) (k : List ℕ) (d : made.Data) (ms : made.Members) → IsFewOf n d → AreFewOf n ms → AreFewOf n (put k d ms)
few-put n k d made.no_members one rest = (one, tt)
few-put n k d (made.member l e ms) one rest = grind (arith, few-put n k d ms)

members-of : (n : ℕ) (ms : json.Members) (found : made.Members) → AreFew n ms → AreFewOf n found → If (AreFewOf n) (of_members ms found)
members-of n json.no_members found h so_far = so_far
members-of n (json.member k j ms) found h so_far = grind (arith, few-of n, few-put n, λ (more : made.Members). members-of n ms more)

list-few : (n : ℕ) (d : made.Data) → IsFewOf n d → IfSome (as_array d) (λ ds. count ds < n)
list-few n d h = grind arith

found-few : (n : ℕ) (k : List ℕ) (ms : made.Members) → AreFewOf n ms → IfSome (option_and_then as_array (get_member k ms)) (λ ds. count ds < n)
found-few n k made.no_members h = tt
found-few n k (made.member l d ms) h = grind (arith, list-few n, found-few n k ms)

-- each list in the object that is made has fewer items
abbrev HasFewOf : ℕ → made.Data → Type 0
HasFewOf n made.null = ⊤
HasFewOf n (made.boolean b) = ⊤
HasFewOf n (made.number x) = ⊤
HasFewOf n (made.string s) = ⊤
HasFewOf n (made.array ds) = ⊤
HasFewOf n (made.object ms) = AreFewOf n ms

has-of : (n : ℕ) (j : json.Json) → HasFew n j → If (HasFewOf n) (of_json j)
has-of n j h = grind (arith, members-of n)

last-has : (n : ℕ) (o : Option (json.Json × List Token)) → Each (HasFew n) o → If (HasFew n) (option_and_then (λ p. json.if_last p.0 p.1) o)
last-has n o h = grind arith

few-in : (n : ℕ) (d : made.Data) → HasFewOf n d → (key : List ℕ) → IfSome (items_at key d) (λ items. count items < n)
few-in n d h k = grind (arith, found-few n)

-- the lists in the object that a text is have fewer items than a number that is above the text's length
pub few-read : (n : ℕ) (text : List ℕ) (d : made.Data) → length text < n → read text ≡ Some d → (key : List ℕ) → IfSome (items_at key d) (λ items. count items < n)
few-read n text d lt e =
    let few : length (tokens text) ≤ n = omega (arith, tokens-of fresh (lex between text), lexemes-of between text) in
    few-in n d (subst (If (HasFewOf n)) e (chained (HasFew n) (HasFewOf n) of_json (λ j. has-of n j) _ (last-has n (value max_depth (tokens text)) (value-has max_depth n (tokens text) few))))
