use Rattle.std.proofs.Common.{◌≡◌, ◌≤◌, ◌∙◌, ℕ, ◌+◌, ◌-◌, List, [], ◌∷◌, ◌++◌, length, take, drop, sym, ap, subst, arith, append_assoc, append-nil, length-drop}
use Rattle.std.proofs.lemmas.List.{take_all}
use Rattle.std.proofs.lemmas.Result.{IfErr-weaker, on_ok_weaker}
use Rattle.journal_replay.specs.ReaderStates.{HasRead, ReaderState, StopsIn}
use Rattle.journal_replay.proofs.Pieces.{handed, read-held, read-line, ready-behind, ready-less, refuse-bytes, refuse-line}
use Rattle.journal_replay.proofs.reader.JournalReader.read_piece.Goals as goal

-- bytes with an LF are those before it, it and those behind it
behind : (front rest piece : List ℕ) (end : ℕ) → front ++ rest ≡ piece → rest ≡ take end rest ++ 10 ∷ drop (end + 1) rest
    → front ++ (take end rest ++ 10 ∷ drop (end + 1) rest) ≡ piece
behind front rest piece end split parts = ap (λ (l : List ℕ). front ++ l) (sym parts) ∙ split

-- the rest behind it
rest-is : (rest : List ℕ) (n : ℕ) → take (length rest - n) (drop n rest) ≡ drop n rest
rest-is rest n = take_all (length rest - n) (drop n rest) (omega (arith, length-drop n rest))

pub returns-in_err-hold-clause-stops : goal.returns-in_err-hold-clause-stops
returns-in_err-hold-clause-stops g c =
    let S = g.T.TakeJournal.stands in
    let inv = c.loop-end.invariant in
    let lf = c.in-Some.ensures in
    let rest = c.loop-end.rest.now in
    let end = c.in-Some.end in
    handed _ c.from_residual.result c.in_err-hold.field-0.0 c.from_residual.ensures.1
    (subst (λ (all : List ℕ). StopsIn S c.args.taker.now c.args.self.now all c.loop-end.taker c.hold.new.self c.in_err-hold.field-0.0) (behind inv.front rest c.args.piece.now end inv.split lf.2)
    (refuse-bytes S c.args.taker.now c.loop-end.taker c.args.self.now c.loop-end.self c.hold.new.self inv.front (take end rest) (10 ∷ drop (end + 1) rest)
    c.in_err-hold.field-0.0 inv.read inv.not_refused lf.1 c.hold.ensures.short c.in_err-hold.ensures.not_held c.hold.ensures.lines))

pub end_line-requires-clause-ready : goal.end_line-requires-clause-ready
end_line-requires-clause-ready g c =
    let lf = c.in-Some.ensures in
    ready-less g.T.TakeJournal.stands c.loop-end.taker 1 (length c.loop-end.rest.now) (omega (arith, lf.0)) c.loop-end.invariant.ready

pub returns-in_err-end_line-clause-stops : goal.returns-in_err-end_line-clause-stops
returns-in_err-end_line-clause-stops g c =
    let S = g.T.TakeJournal.stands in
    let inv = c.loop-end.invariant in
    let lf = c.in-Some.ensures in
    let rest = c.loop-end.rest.now in
    let end = c.in-Some.end in
    let bytes = take end rest in
    let more = drop (end + 1) rest in
    let held = c.in_ok-hold.ensures.held in
    let so = read-held S c.args.taker.now c.loop-end.taker c.args.self.now c.loop-end.self c.hold.new.self inv.front bytes inv.read inv.header inv.not_refused lf.1 held.new_is held.short in
    handed _ c.from_residual-in_err-end_line.result c.in_err-end_line.field-0.0 c.from_residual-in_err-end_line.ensures.1
    (subst (λ (all : List ℕ). StopsIn S c.args.taker.now c.args.self.now all c.end_line.new.taker c.end_line.new.self c.in_err-end_line.field-0.0)
    (append_assoc inv.front bytes (10 ∷ more) ∙ behind inv.front rest c.args.piece.now end inv.split lf.2)
    (refuse-line S c.args.taker.now c.loop-end.taker c.end_line.new.taker c.args.self.now c.hold.new.self c.end_line.new.self (inv.front ++ bytes) so (c.hold.ensures.header ∙ inv.header)
    (c.hold.ensures.refusal ∙ inv.not_refused) c.in_err-end_line.field-0.0 c.in_err-end_line.ensures.judged more c.in_err-end_line.ensures.lines))

pub loop-end-preserved : goal.loop-end-preserved
loop-end-preserved g c =
    let S = g.T.TakeJournal.stands in
    let inv = c.loop-end.invariant in
    let lf = c.in-Some.ensures in
    let rest = c.loop-end.rest.now in
    let end = c.in-Some.end in
    let bytes = take end rest in
    let held = c.in_ok-hold.ensures.held in
    let ended = c.in_ok-end_line.ensures.ended in
    let r = c.hold.new.self in
    let so = read-held S c.args.taker.now c.loop-end.taker c.args.self.now c.loop-end.self r inv.front bytes inv.read inv.header inv.not_refused lf.1 held.new_is held.short in
    let same = c.hold.ensures.header ∙ inv.header in
    let none_yet = c.hold.ensures.refusal ∙ inv.not_refused in
    let behind_it = rest-is rest (end + 1) in
    let fewer : length (drop (end + 1) rest) + 1 ≤ length rest = omega (arith, length-drop (end + 1) rest, lf.0) in
    let ready = ready-less S c.loop-end.taker (length (drop (end + 1) rest) + 1) (length rest) fewer inv.ready in
    record {
      front = (inv.front ++ bytes) ++ 10 ∷ [];
      split =
          ap (λ (l : List ℕ). ((inv.front ++ bytes) ++ 10 ∷ []) ++ l) behind_it ∙ append_assoc (inv.front ++ bytes) (10 ∷ []) (drop (end + 1) rest)
          ∙ append_assoc inv.front bytes (10 ∷ drop (end + 1) rest) ∙ behind inv.front rest c.args.piece.now end inv.split lf.2;
      read = read-line S c.args.taker.now c.loop-end.taker c.end_line.new.taker c.args.self.now r c.end_line.new.self (inv.front ++ bytes) so same none_yet c.in_ok-end_line.ensures.judged ended;
      header = c.end_line.ensures.header ∙ same;
      not_refused = c.end_line.ensures.refusal ∙ none_yet;
      few = omega (arith, inv.few, ap length behind_it, length-drop (end + 1) rest, lf.0, ap (λ (x : ReaderState). x.lines) ended, c.hold.ensures.lines);
      ready =
          let left : ℕ = length (drop (end + 1) rest) in
          let judged = c.in_ok-end_line.ensures.judged ready.service ready.before ready.stands in
          ready-less S c.end_line.new.taker _ left (omega (arith, ap length behind_it))
          (ready-behind S c.loop-end.taker c.end_line.new.taker r.header r.lines left (r.held ++ 10 ∷ []) ready judged);
    }

pub returns-clause-read : goal.returns-clause-read
returns-clause-read g c =
    let S = g.T.TakeJournal.stands in
    let inv = c.loop-end.invariant in
    on_ok_weaker c.hold-2.result (λ held. subst (λ (all : List ℕ). HasRead S c.args.taker.now c.args.self.now all c.loop-end.taker c.hold-2.new.self) inv.split
    (read-held S c.args.taker.now c.loop-end.taker c.args.self.now c.loop-end.self c.hold-2.new.self inv.front c.loop-end.rest.now
    inv.read inv.header inv.not_refused c.in_default.ensures held.new_is held.short))
    c.hold-2.ensures.held

pub returns-clause-stops : goal.returns-clause-stops
returns-clause-stops g c =
    let S = g.T.TakeJournal.stands in
    let inv = c.loop-end.invariant in
    let rest = c.loop-end.rest.now in
    IfErr-weaker c.hold-2.result _ _ (λ why not. subst (λ (all : List ℕ). StopsIn S c.args.taker.now c.args.self.now all c.loop-end.taker c.hold-2.new.self why)
    (ap (λ (l : List ℕ). inv.front ++ l) (append-nil rest) ∙ inv.split)
    (refuse-bytes S c.args.taker.now c.loop-end.taker c.args.self.now c.loop-end.self c.hold-2.new.self inv.front rest []
    why inv.read inv.not_refused c.in_default.ensures c.hold-2.ensures.short not c.hold-2.ensures.lines)) c.hold-2.ensures.not_held
