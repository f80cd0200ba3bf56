use Rattle.std.proofs.Common.{◌≡◌, ◌<◌, ℕ, length, zero, suc, List, [], ◌∷◌, Option, None, Some, false, get_or, set, slice_index_or, nat_eq, ap, refl, sym, ◌∙◌, inl, inr, rules}
use Rattle.std.proofs.lemmas.List.{get_or-set_other, get_or_default}
use Rattle.propagate.proofs.Words.{Key, cases_Bool, eq-eqb, eqb-true, is_same}
use Rattle.propagate.specs.Asked.{asked_in, slot_of}
use Rattle.propagate.specs.declared.asked.Asked.{Asked}
use Rattle.propagate.specs.declared.asked.Entry.{Entry}
use Rattle.propagate.proofs.OneKey.{of-one}
use Rattle.propagate.proofs.asked.AskedTable.take.Goals as goal

emptied : (entries : List (Option Entry)) (i : ℕ) → get_or (set entries i None) i None ≡ None
emptied [] i = refl
emptied (e ∷ es) zero = refl
emptied (e ∷ es) (suc i) = emptied es i

-- where a slot is emptied that had the entry of a key, what is asked of the others stays
stays : (entries : List (Option Entry)) (i n : ℕ) (k q : Key) (a : Asked) → asked_in (get_or entries i None) k ≡ Some a → is_same k q ≡ false → asked_in (get_or (set entries i None) n None) q ≡ asked_in (get_or entries n None) q
stays entries i n k q a known apart =
    elim (cases_Bool (nat_eq n i)) [
      | inl same ↦
          let e = eqb-true n i same in
          let gone : asked_in (get_or (set entries i None) n None) q ≡ None = rw e (ap (λ o. asked_in o q) (emptied entries i)) in
          let other : asked_in (get_or entries n None) q ≡ None = rw e (of-one (get_or entries i None) k q apart a known) in
          gone ∙ sym other
      | inr differ ↦ ap (λ o. asked_in o q) (get_or-set_other entries i n None None (λ e. let same = eq-eqb n i e in absurd (cc)))
    ]

pub returns-clause-others : goal.returns-clause-others
returns-clause-others c = λ q apart.
    let within : c.slot_of-slot.result < length c.args.self.now.entries = search rules in
    let here : asked_in c.index-self-slot.result c.args.k.now ≡ Some c.in_ok-asked.asked = search rules in
    let read = get_or_default c.args.self.now.entries c.slot_of-slot.result None c.index-self-slot.result within in
    let known : asked_in (slice_index_or c.args.self.now.entries c.slot_of-slot.result None) c.args.k.now ≡ Some c.in_ok-asked.asked = ap (λ o. asked_in o c.args.k.now) (read ∙ sym c.index-self-slot.is) ∙ here in
    stays c.args.self.now.entries c.slot_of-slot.result (slot_of q) c.args.k.now q c.in_ok-asked.asked known apart
