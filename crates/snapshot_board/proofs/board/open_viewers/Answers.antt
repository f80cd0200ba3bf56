use Rattle.std.proofs.Common.{rules, ◌≡◌, [], ◌∷◌, ◌++◌, vec_len, ◌+◌}
use Rattle.std.proofs.lemmas.List.Elements.{All-same, All-push}
use Rattle.snapshot_board.specs.Meetings.{newcomer}
use Rattle.snapshot_board.proofs.board.open_viewers.Goals as goal

pub loop-preserved : goal.loop-preserved
loop-preserved g c =
    let new = c.open_viewer in let items = c.loop.viewers.items in let i = c.loop.invariant in
    let long : vec_len c.push.new.self ≡ c.loop.counter + 1 = search rules in
    let e : c.push.new.self.items ≡ items ++ new.result ∷ [] = search rules in
    (long, All-same (λ v. v ≡ newcomer) _ _ e (All-push (λ v. v ≡ newcomer) items new.result i.1 new.ensures))
