-- The line of a message is read as that message.
use Rattle.std.specs.Prelude.{⊤}
use Rattle.std.proofs.Common.{◌≡◌, ℕ, ◌<◌, ◌≤◌, ◌^◌, IsUtf8, List, [], ◌∷◌, ◌++◌, All, Bool, true, false, Option, Some, None, Ok, option_and_then, option_map, append-nil, codes, decimal, IfSome, inr, refl, subst, sym, ap, ◌∙◌, arith, lit<}
use Rattle.std.specs.List.{AllByRecursion}
use Rattle.std.specs.Str.{is_utf8}
use Rattle.std.proofs.lemmas.Fmt.{IsAscii-decimal}
use Rattle.std.proofs.lemmas.List.{append_cancel_right}
use Rattle.std.proofs.lemmas.List.Elements.{recursion_from_All}
use Rattle.std.proofs.lemmas.Str.{IsUtf8-append, IsUtf8-from_ascii, is_utf8-from_IsUtf8, IsUtf8-from_is_utf8}
use Rattle.json.specs.Json as json
use Rattle.json.specs.Tree.{depth, items_depth, json_tokens, HasNumbers, ItemsHaveNumbers, MembersHaveNumbers}
use Rattle.json.proofs.Printed.Decimals.{IsNumber-decimal}
use Rattle.json.proofs.Printed.Tokens.{tokens-print}
use Rattle.json.proofs.Printed.Trees.{value-json_tokens, ArePrintable-json_tokens}
use Rattle.json.proofs.Printed.Utf8.{IsUtf8-are_ascii, IsUtf8-boolean, IsUtf8-quoted, are_ascii}
use Rattle.serde_json.specs.Data.{Data, Items, Members, Num, unsigned, negative, float, null, boolean, number, string, array, object, no_items, item, no_members, member}
use Rattle.serde_json.specs.Read.{max_depth, number_of, of_items, of_json, read}
use Rattle.serde_json.specs.Written.{comma_if, compact_text, items_outline, items_text, members_outline, members_text, outline}
use Rattle.serde_json.proofs.Numbers.{number_of-decimal}
use Rattle.serde_json.proofs.Texts.{print-outline}
use Rattle.mt_base.specs.Civil.{IsCivil}
use Rattle.train_nodes.specs.declared.kinds.ValueKind.{ValueKind}
use Rattle.train_nodes.specs.declared.kinds.ValueKind.TheVariants as values
use Rattle.message_reader.specs.declared.wire.Connect.{Connect as AConnect}
use Rattle.message_reader.specs.declared.wire.Connect.TheVariants as connects
use Rattle.message_reader.specs.declared.wire.Line.TheVariants.{Message}
use Rattle.message_reader.specs.declared.wire.WireCall.{WireCall}
use Rattle.message_reader.specs.declared.wire.WireRef.{WireRef}
use Rattle.message_reader.specs.declared.wire.Wire.{Wire}
use Rattle.message_reader.specs.declared.wire.Wire.TheVariants.{Event, Correct, Withdraw, Cancel, Reroute, Extra, Connect}
use Rattle.message_reader.specs.Lines.{line_of}
use Rattle.message_reader.specs.Spelled.{call_object, call_objects, connect_name, date_text, event_name, object_of, ref_object, time_text, value_name, CanBeSaidIn, HasLabels}
use Rattle.message_reader.specs.Wires.{IsProper, IsWireCall}
use Rattle.message_reader.proofs.SpelledLemmas.{messages_back}
use Rattle.journal_lines.specs.declared.heads.Head.{Head}
use Rattle.journal_lines.specs.Lines.{head_object, text_of_head, text_of_message, HasStopText, HasTexts}
use Rattle.journal_lines.proofs.Clear.{IsClear, clear-all, text-clear}
use Rattle.journal_lines.proofs.Digits.{civil-below, date-ascii, time-ascii}

-- ---- values in general

-- a whole number of 64 bits
abbrev IsWhole : Num → Type 0
IsWhole (unsigned n) = n < 2 ^ 64
IsWhole (negative z) = ⊥
IsWhole (float x) = ⊥

-- what a value holds has a text that is read as it: keys are ASCII, texts UTF-8, numbers whole
abbrev mutual
  AreTexts : Data → Type 0
  AreTexts null = ⊤
  AreTexts (boolean b) = ⊤
  AreTexts (number n) = IsWhole n
  AreTexts (string s) = IsUtf8 s
  AreTexts (array ds) = ItemsAreTexts ds
  AreTexts (object ms) = MembersAreTexts ms

  ItemsAreTexts : Items → Type 0
  ItemsAreTexts no_items = ⊤
  ItemsAreTexts (item d ds) = AreTexts d × ItemsAreTexts ds

  MembersAreTexts : Members → Type 0
  MembersAreTexts no_members = ⊤
  MembersAreTexts (member k d ms) = (are_ascii k ≡ true) × AreTexts d × MembersAreTexts ms

mutual
  numbers-there : (d : Data) → AreTexts d → HasNumbers (outline d)
  numbers-there null h = tt
  numbers-there (boolean b) h = tt
  numbers-there (number (unsigned n)) h = IsNumber-decimal n h
  numbers-there (number (negative z)) h = absurd h
  numbers-there (number (float x)) h = absurd h
  numbers-there (string s) h = tt
  numbers-there (array ds) h = numbers-of-items ds h
  numbers-there (object ms) h = numbers-of-members ms h

  numbers-of-items : (ds : Items) → ItemsAreTexts ds → ItemsHaveNumbers (items_outline ds)
  numbers-of-items no_items h = tt
  numbers-of-items (item d ds) h = (numbers-there d h.0, numbers-of-items ds h.1)

  numbers-of-members : (ms : Members) → MembersAreTexts ms → MembersHaveNumbers (members_outline ms)
  numbers-of-members no_members h = tt
  numbers-of-members (member k d ms) h = (numbers-there d h.1, numbers-of-members ms h.2)

comma-utf8 : (later : Bool) → IsUtf8 (comma_if later)
comma-utf8 true = IsUtf8-are_ascii (44 ∷ []) refl
comma-utf8 false = IsUtf8-are_ascii [] refl

mutual
  text-utf8 : (d : Data) → AreTexts d → IsUtf8 (compact_text d)
  text-utf8 null h = IsUtf8-are_ascii (codes "null") refl
  text-utf8 (boolean b) h = IsUtf8-boolean b
  text-utf8 (number (unsigned n)) h = IsUtf8-from_ascii _ (IsAscii-decimal n h)
  text-utf8 (number (negative z)) h = absurd h
  text-utf8 (number (float x)) h = absurd h
  text-utf8 (string s) h = IsUtf8-quoted s h
  text-utf8 (array ds) h = IsUtf8-append (91 ∷ []) (items_text false ds) (IsUtf8-are_ascii (91 ∷ []) refl) (items-utf8 false ds h)
  text-utf8 (object ms) h = IsUtf8-append (123 ∷ []) (members_text false ms) (IsUtf8-are_ascii (123 ∷ []) refl) (members-utf8 false ms h)

  items-utf8 : (later : Bool) (ds : Items) → ItemsAreTexts ds → IsUtf8 (items_text later ds)
  items-utf8 later no_items h = IsUtf8-are_ascii (93 ∷ []) refl
  items-utf8 later (item d ds) h = IsUtf8-append (comma_if later) _ (comma-utf8 later) (IsUtf8-append (compact_text d) _ (text-utf8 d h.0) (items-utf8 true ds h.1))

  members-utf8 : (later : Bool) (ms : Members) → MembersAreTexts ms → IsUtf8 (members_text later ms)
  members-utf8 later no_members h = IsUtf8-are_ascii (125 ∷ []) refl
  members-utf8 later (member k d ms) h =
      let behind = IsUtf8-append (compact_text d) (members_text true ms) (text-utf8 d h.1) (members-utf8 true ms h.2) in
      IsUtf8-append (comma_if later) _ (comma-utf8 later)
      (IsUtf8-append _ _ (IsUtf8-quoted k (IsUtf8-are_ascii k h.0)) (IsUtf8-append (58 ∷ []) _ (IsUtf8-are_ascii (58 ∷ []) refl) behind))

-- a value with such texts, of which nothing is lost when it is outlined, is read from its text
text-read : (d : Data) → AreTexts d → depth (outline d) ≤ max_depth → of_json (outline d) ≡ Some d → read (compact_text d) ≡ Some d
text-read d texts shallow is =
    let j = outline d in
    let ts = json_tokens j in
    let lexed = tokens-print ts (ArePrintable-json_tokens j (numbers-there d texts)) ∙ sym (append-nil ts) in
    ap read (sym (print-outline d))
    ∙ ap (λ us. option_and_then of_json (option_and_then (λ p. json.if_last p.0 p.1) (json.value max_depth us))) lexed
    ∙ ap (λ o. option_and_then of_json (option_and_then (λ p. json.if_last p.0 p.1) o)) (value-json_tokens j max_depth [] shallow) ∙ is

-- ---- the parts of messages

text-of-name : (s : List ℕ) → is_utf8 s ≡ true → IsUtf8 s
text-of-name s is = IsUtf8-from_is_utf8 s is

text-of-date : (date : ℕ) → IsCivil date → IsUtf8 (date_text date)
text-of-date date civil = IsUtf8-from_ascii _ (date-ascii date (civil-below date civil))

text-of-time : (s : ℕ) → s ≤ 359999 → IsUtf8 (time_text s)
text-of-time s small = IsUtf8-from_ascii _ (time-ascii s small)

text-of-event : (dep : Bool) → IsUtf8 (event_name dep)
text-of-event true = IsUtf8-are_ascii (codes "dep") refl
text-of-event false = IsUtf8-are_ascii (codes "arr") refl

text-of-value : (kind : ValueKind) → IsUtf8 (value_name kind)
text-of-value values.Report = IsUtf8-are_ascii (codes "report") refl
text-of-value values.Forecast = IsUtf8-are_ascii (codes "forecast") refl

text-of-connect : (kind : AConnect) → IsUtf8 (connect_name kind)
text-of-connect connects.Keep = IsUtf8-are_ascii (codes "keep") refl
text-of-connect connects.Drop = IsUtf8-are_ascii (codes "drop") refl
text-of-connect connects.Rule = IsUtf8-are_ascii (codes "rule") refl

wide : (n : ℕ) → n < 2 ^ 32 → n < 2 ^ 64
wide n small = omega arith

-- the members of a named call
ref-texts : (r : WireRef) → r.call < 2 ^ 32 → IsCivil r.date → is_utf8 r.trip ≡ true → AreTexts (ref_object r)
ref-texts r small civil named = (refl, wide r.call small, (refl, text-of-date r.date civil, (refl, text-of-name r.trip named, tt)))

calls-texts : (cs : List WireCall) → AllByRecursion IsWireCall cs → AllByRecursion HasStopText cs → ItemsAreTexts (call_objects cs)
unfolding call_objects
calls-texts [] times named = tt
calls-texts (c ∷ cs) times named =
    ((refl, text-of-time c.arr times.0.0, (refl, text-of-time c.dep times.0.1, (refl, text-of-name c.stop named.0, tt))), calls-texts cs times.1 named.1)

calls-read : (cs : List WireCall) → of_items (items_outline (call_objects cs)) ≡ Some (call_objects cs)
unfolding call_objects
calls-read [] = refl
calls-read (c ∷ cs) = ap (option_map (item (call_object c))) (calls-read cs)

calls-shallow : (cs : List WireCall) → items_depth (items_outline (call_objects cs)) ≤ 1
unfolding call_objects
calls-shallow [] = omega arith
calls-shallow (c ∷ cs) = omega (arith, calls-shallow cs)

-- ---- messages

-- what the text of a value needs to be read as it
record IsReadAgain (d : Data) : Type 0 where
  texts : AreTexts d
  shallow : depth (outline d) ≤ max_depth
  read : of_json (outline d) ≡ Some d

two : number_of (decimal 2) ≡ Some (unsigned 2)
two = number_of-decimal 2 (lit< tt)

two-is-whole : 2 < 2 ^ 64
two-is-whole = lit< tt

event-again : (kind : ValueKind) (trip : List ℕ) (date call : ℕ) (dep : Bool) (secs : ℕ) → IsCivil date → secs ≤ 359999 → call < 2 ^ 32 → is_utf8 trip ≡ true
    → IsReadAgain (object_of 2 (Event kind trip date call dep secs))
event-again kind trip date call dep secs civil small few named = record {
  texts = (
    refl,
    wide call few,
    (
      refl,
      text-of-date date civil,
      (
        refl,
        text-of-event dep,
        (
          refl,
          text-of-time secs small,
          (refl, text-of-name trip named, (refl, text-of-value kind, (refl, two-is-whole, tt))),
        ),
      ),
    ),
  );
  shallow = omega arith;
  read = rw (number_of-decimal call (wide call few), two) refl;
}

correct-again : (trip : List ℕ) (date call : ℕ) (dep : Bool) (secs : Option ℕ) → IsCivil date → IfSome secs (λ s. s ≤ 359999) → call < 2 ^ 32 → is_utf8 trip ≡ true
    → IsReadAgain (object_of 2 (Correct trip date call dep secs))
correct-again trip date call dep None civil small few named = record {
  texts = (
    refl,
    wide call few,
    (
      refl,
      text-of-date date civil,
      (
        refl,
        text-of-event dep,
        (
          refl,
          tt,
          (refl, text-of-name trip named, (refl, IsUtf8-are_ascii (codes "correct") refl, (refl, two-is-whole, tt))),
        ),
      ),
    ),
  );
  shallow = omega arith;
  read = rw (number_of-decimal call (wide call few), two) refl;
}
correct-again trip date call dep (Some secs) civil small few named = record {
  texts = (
    refl,
    wide call few,
    (
      refl,
      text-of-date date civil,
      (
        refl,
        text-of-event dep,
        (
          refl,
          text-of-time secs small,
          (refl, text-of-name trip named, (refl, IsUtf8-are_ascii (codes "correct") refl, (refl, two-is-whole, tt))),
        ),
      ),
    ),
  );
  shallow = omega arith;
  read = rw (number_of-decimal call (wide call few), two) refl;
}

withdraw-again : (trip : List ℕ) (date call : ℕ) (dep : Bool) → IsCivil date → call < 2 ^ 32 → is_utf8 trip ≡ true
    → IsReadAgain (object_of 2 (Withdraw trip date call dep))
withdraw-again trip date call dep civil few named = record {
  texts = (
    refl,
    wide call few,
    (
      refl,
      text-of-date date civil,
      (
        refl,
        text-of-event dep,
        (refl, text-of-name trip named, (refl, IsUtf8-are_ascii (codes "withdraw") refl, (refl, two-is-whole, tt))),
      ),
    ),
  );
  shallow = omega arith;
  read = rw (number_of-decimal call (wide call few), two) refl;
}

cancel-again : (trip : List ℕ) (date from to : ℕ) → IsCivil date → from < 2 ^ 32 → to < 2 ^ 32 → is_utf8 trip ≡ true
    → IsReadAgain (object_of 2 (Cancel trip date from to))
cancel-again trip date from to civil few-from few-to named = record {
  texts = (
    refl,
    text-of-date date civil,
    (
      refl,
      wide from few-from,
      (
        refl,
        wide to few-to,
        (refl, text-of-name trip named, (refl, IsUtf8-are_ascii (codes "cancel") refl, (refl, two-is-whole, tt))),
      ),
    ),
  );
  shallow = omega arith;
  read = rw (number_of-decimal from (wide from few-from), number_of-decimal to (wide to few-to), two) refl;
}

reroute-again : (trip : List ℕ) (date from to : ℕ) (via : List WireCall) → IsCivil date → AllByRecursion IsWireCall via → from < 2 ^ 32 → to < 2 ^ 32 → is_utf8 trip ≡ true
    → AllByRecursion HasStopText via → IsReadAgain (object_of 2 (Reroute trip date from to via))
reroute-again trip date from to via civil times few-from few-to named stops = record {
  texts = (
    refl,
    text-of-date date civil,
    (
      refl,
      wide from few-from,
      (
        refl,
        wide to few-to,
        (refl, text-of-name trip named, (refl, IsUtf8-are_ascii (codes "reroute") refl, (refl, two-is-whole, (refl, calls-texts via times stops, tt)))),
      ),
    ),
  );
  shallow = omega (arith, calls-shallow via);
  read = rw (number_of-decimal from (wide from few-from), number_of-decimal to (wide to few-to), two, calls-read via) refl;
}

extra-again : (trip : List ℕ) (date : ℕ) (route : List ℕ) (calls : List WireCall) → IsCivil date → AllByRecursion IsWireCall calls → is_utf8 trip ≡ true → is_utf8 route ≡ true
    → AllByRecursion HasStopText calls → IsReadAgain (object_of 2 (Extra trip date route calls))
extra-again trip date route calls civil times named route-named stops = record {
  texts = (
    refl,
    calls-texts calls times stops,
    (
      refl,
      text-of-date date civil,
      (
        refl,
        text-of-name route route-named,
        (refl, text-of-name trip named, (refl, IsUtf8-are_ascii (codes "extra") refl, (refl, two-is-whole, tt))),
      ),
    ),
  );
  shallow = omega (arith, calls-shallow calls);
  read = rw (two, calls-read calls) refl;
}

connect-again : (kind : AConnect) (feeder train : WireRef) → IsCivil feeder.date → IsCivil train.date → feeder.call < 2 ^ 32 → train.call < 2 ^ 32 → is_utf8 feeder.trip ≡ true
    → is_utf8 train.trip ≡ true → IsReadAgain (object_of 2 (Connect kind feeder train))
connect-again kind feeder train civil civil-train few few-train named named-train = record {
  texts = (refl, ref-texts feeder few civil named, (refl, ref-texts train few-train civil-train named-train, (refl, text-of-connect kind, (refl, two-is-whole, tt))));
  shallow = omega arith;
  read = rw (number_of-decimal feeder.call (wide feeder.call few), number_of-decimal train.call (wide train.call few-train), two) refl;
}

again : (w : Wire) → IsProper w → HasLabels w → HasTexts w → IsReadAgain (object_of 2 w)
again (Event kind trip date call dep secs) is labels texts = event-again kind trip date call dep secs is.0 is.1 labels texts
again (Correct trip date call dep secs) is labels texts = correct-again trip date call dep secs is.0 is.1 labels texts
again (Withdraw trip date call dep) is labels texts = withdraw-again trip date call dep is labels texts
again (Cancel trip date from to) is labels texts = cancel-again trip date from to is labels.0 labels.1 texts
again (Reroute trip date from to via) is labels texts =
    reroute-again trip date from to via is.0 (recursion_from_All IsWireCall via is.1) labels.0 labels.1 texts.0 (recursion_from_All HasStopText via texts.1)
again (Extra trip date route calls) is labels texts =
    extra-again trip date route calls is.0 (recursion_from_All IsWireCall calls is.1) texts.0 texts.1 (recursion_from_All HasStopText calls texts.2)
again (Connect kind feeder train) is labels texts = connect-again kind feeder train is.0 is.1 labels.0 labels.1 texts.0 texts.1

-- every message can be said in version 2
said-in-two : (w : Wire) → CanBeSaidIn 2 w
said-in-two (Event kind trip date call dep secs) = inr refl
said-in-two (Correct trip date call dep secs) = refl
said-in-two (Withdraw trip date call dep) = refl
said-in-two (Cancel trip date from to) = inr refl
said-in-two (Reroute trip date from to via) = inr refl
said-in-two (Extra trip date route calls) = inr refl
said-in-two (Connect kind feeder train) = inr refl

pub lines-again : (w : Wire) (line : List ℕ) → IsProper w → HasLabels w → HasTexts w → text_of_message w ≡ line ++ 10 ∷ [] → line_of line ≡ Ok (Message w)
unfolding text_of_message line_of
lines-again w line is labels texts ends =
    let d = object_of 2 w in
    let back = again w is labels texts in
    let same : compact_text d ≡ line = append_cancel_right (compact_text d) line (10 ∷ []) ends in
    let utf8 : is_utf8 line ≡ true = ap is_utf8 (sym same) ∙ is_utf8-from_IsUtf8 (compact_text d) (text-utf8 d back.texts) in
    rw (utf8, ap read (sym same) ∙ text-read d back.texts back.shallow back.read) (messages_back 2 w (said-in-two w) is labels)

-- it has no LF within
pub lines-clear : (w : Wire) (line : List ℕ) → text_of_message w ≡ line ++ 10 ∷ [] → All (λ b. 32 ≤ b) line
unfolding text_of_message
lines-clear w line ends =
    let d = object_of 2 w in
    let same : compact_text d ≡ line = append_cancel_right (compact_text d) line (10 ∷ []) ends in
    clear-all line (subst IsClear same (text-clear d))

-- nor has a header
pub header-clear : (head : Head) (line : List ℕ) → text_of_head head ≡ line ++ 10 ∷ [] → All (λ b. 32 ≤ b) line
unfolding text_of_head
header-clear head line ends =
    let d = head_object head in
    let same : compact_text d ≡ line = append_cancel_right (compact_text d) line (10 ∷ []) ends in
    clear-all line (subst IsClear same (text-clear d))
