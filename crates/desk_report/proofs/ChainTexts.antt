-- The texts of chains byte by byte.
use Rattle.std.proofs.Common.{◌≡◌, ◌<◌, ◌≤◌, ◌+◌, ℕ, Bool, List, [], ◌∷◌, ◌++◌, codes, true, false, length, get_or, drop, ap, sym, ◌∙◌, append_assoc}
use Rattle.std.specs.Prelude.{decimal}
use Rattle.std.proofs.lemmas.List.{drop_more, drop_all}
use Rattle.serde_json.specs.Written.{comma_if, compact_text, items_text}
use Rattle.serde_json.proofs.OnLiterals.{serde_json_on_literals}
use Rattle.cause_laws.specs.declared.causes.Link.{Link}
use Rattle.schedule_build.specs.Directory.{Names}
use Rattle.desk_report.specs.Chains.{link_object, link_objects, text_of_because}

-- what is appended, and then the rest
joined : (done comma text rest : List ℕ) → (done ++ (comma ++ text)) ++ rest ≡ done ++ (comma ++ (text ++ rest))
joined done comma text rest = simp append_assoc

-- the text of the links from one on is that of this link and of the rest, which stands behind something
pub link-passed : (names : Names) (later : Bool) (links : List Link) (i : ℕ) (l : Link) (done : List ℕ) → i < length links → l ≡ get_or links i l
    → (done ++ (comma_if later ++ compact_text (link_object names l))) ++ items_text true (link_objects names (drop (i + 1) links))
    ≡ done ++ items_text later (link_objects names (drop i links))
unfolding link_objects
link-passed names later links i l done less is =
    let rest : List ℕ = items_text true (link_objects names (drop (i + 1) links)) in
    let left : drop i links ≡ l ∷ drop (i + 1) links = drop_more links i l less ∙ ap (λ (x : Link). x ∷ drop (i + 1) links) (sym is) in
    joined done (comma_if later) (compact_text (link_object names l)) rest
    ∙ ap (λ (ls : List Link). done ++ items_text later (link_objects names ls)) (sym left)

-- behind the last link stands the bracket
pub links-passed : (names : Names) (later : Bool) (links : List Link) (i : ℕ) (done : List ℕ) → length links ≤ i
    → done ++ 93 ∷ [] ≡ done ++ items_text later (link_objects names (drop i links))
unfolding link_objects
links-passed names later links i done all = ap (λ (ls : List Link). done ++ items_text later (link_objects names ls)) (sym (drop_all i links all))

-- the pieces of the reply, in the order in which they are appended, and its text from the left
pieces-joined : (a p b ls c r e : List ℕ) → ((((a ++ p) ++ b) ++ ls) ++ (c ++ r)) ++ e ≡ a ++ (p ++ (b ++ (ls ++ (c ++ (r ++ e)))))
pieces-joined a p b ls c r e = simp append_assoc

-- an object's text from the left, and what stands behind it
end-joined : (a p b ls c r e f : List ℕ) → (a ++ (p ++ (b ++ (ls ++ (c ++ (r ++ e)))))) ++ f ≡ a ++ (p ++ (b ++ (ls ++ (c ++ (r ++ (e ++ f))))))
end-joined a p b ls c r e f = simp append_assoc

-- the text of the reply with a chain
pub because-line : (names : Names) (line after : ℕ) (links : List Link)
    → ((((codes "{\"after\":" ++ decimal after) ++ codes ",\"because\":[") ++ items_text false (link_objects names links))
    ++ (codes ",\"line\":" ++ decimal line))
    ++ codes "}\n" ≡ text_of_because names line after links
unfolding serde_json_on_literals text_of_because
because-line names line after links =
    let ls : List ℕ = items_text false (link_objects names links) in
    pieces-joined (codes "{\"after\":") (decimal after) (codes ",\"because\":[") ls (codes ",\"line\":") (decimal line) (codes "}\n")
    ∙ sym (end-joined (codes "{\"after\":") (decimal after) (codes ",\"because\":[") ls (codes ",\"line\":") (decimal line) (codes "}") (codes "\n"))
