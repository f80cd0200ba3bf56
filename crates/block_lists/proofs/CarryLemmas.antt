-- Elements that move back by one through full blocks.
use Rattle.block_lists.proofs.Words.{◌≡◌, ℕ, ◌+◌, ◌*◌, ◌/◌, ◌%◌, ◌<◌, ◌≤◌, List, length, get_or, sym, ◌∙◌, ap, arith, inl, inr, cases_eq, cases_lt, set}
use Rattle.block_lists.proofs.Words.{get_or_default, length-set, IsMovedBack, element, followed, stored_at}
use Rattle.block_lists.proofs.PlaceLemmas.{at-changed, at-moved, blocks-turned, other-block}
use Rattle.block_lists.proofs.ShiftLemmas.{followed-before}

-- one block more
pub back-more : {X : Type 0} (olds : List ℕ) (old : List X) (starts : List ℕ) (stored : List X) (block last : ℕ) (item carried next : X) → block < last → last ≤ length old / 256 → next ≡ get_or stored (block * 256 + get_or starts block 0) next → IsMovedBack olds old starts stored ((block + 1) * 256) (last * 256) item carried → IsMovedBack olds old (set starts block ((get_or starts block 0 + 1) % 256)) (set stored (block * 256 + get_or starts block 0) carried) (block * 256) (last * 256) item next
back-more olds old starts stored block last item carried next order full read h =
    let s = get_or starts block 0 in
    let v = (s + 1) % 256 in
    let i = block * 256 + s in
    let before = element olds old in
    let turned = h.blocks.turned block in
    let known : block < length starts = omega (arith, h.blocks.known) in
    let within : i < length stored = omega (arith, h.same_length, turned) in
    let elsewhere = other-block starts stored block v i carried known (omega arith) (omega (arith, turned)) within in
    record {
      blocks = blocks-turned starts (length old) block v h.blocks known (omega arith) (λ l. absurd (omega (arith, l)));
      same_length = length-set stored i carried ∙ h.same_length;
      same_starts = length-set starts block v ∙ h.same_starts;
      below = λ k d l. elsewhere k d (λ e. omega (arith, e, l)) ∙ h.below k d (omega (arith, l));
      moved = λ k d l m. elim (cases_lt k ((block + 1) * 256)) [
        | inr high ↦ elsewhere k d (λ e. omega (arith, e, high)) ∙ h.moved k d high m
        | inl low ↦ elim (cases_eq (k + 1) ((block + 1) * 256)) [
          | inl e ↦
              at-changed starts stored block v i carried known (omega arith) (omega (arith, turned)) within k d (omega (arith, e)) (omega (arith, e, turned))
              ∙ h.taken_is d ∙ ap (λ j. followed before (last * 256) item j d) (sym e)
          | inr e ↦
              (let own : k / 256 ≡ block = omega (arith, low, l) in
              let same : get_or starts ((k + 1) / 256) 0 ≡ s = ap (λ b. get_or starts b 0) (omega (arith, low, l, e)) in
              let to : block * 256 + (v + k % 256) % 256 ≡ stored_at starts (k + 1) = omega (arith, same, own, e, low, l, turned) in
              followed-before before (last * 256) item _ d (k + 1) (λ f. omega (arith, f, low, e, order))
              (at-moved starts stored block v i carried known (omega arith) (omega (arith, turned)) within k (k + 1) d own to (λ f. omega (arith, f, same, own, e, low, l, turned))
              ∙ h.below (k + 1) d (omega (arith, low, e))))
        ]
      ];
      above = λ k d l m. elsewhere k d (λ e. omega (arith, e, l, order)) ∙ h.above k d l m;
      taken_is = λ d.
          let k = block * 256 in
          let same : get_or starts (k / 256) 0 ≡ s = ap (λ b. get_or starts b 0) (omega arith) in
          let at_first : i ≡ stored_at starts k = omega (arith, same, turned) in
          followed-before before (last * 256) item _ d k (λ f. omega (arith, f, order))
          (read ∙ get_or_default stored i next d within ∙ ap (λ j. get_or stored j d) at_first
          ∙ h.below k d (omega arith));
    }
