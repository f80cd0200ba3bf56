use Rattle.change_times.proofs.Words.{rules, ◌≡◌, subst, All, All-contains_itself, All-weaker, Contains-permutation, Contains, near, links_in}
use Rattle.std.proofs.Common.{append_assoc}
use Rattle.std.proofs.Math.Dec.{eqb}
use Rattle.std.proofs.lemmas.List.Filters.{dedup_is}
use Rattle.std.proofs.lemmas.List.Kept.{Contains-dedup_nat}
use Rattle.std.proofs.lemmas.Map.Keys.{IsStrictlyIncreasing-dedup}
use Rattle.change_times.proofs.near.Nearby.find.Goals as goal

pub returns-clause-order : goal.returns-clause-order
returns-clause-order c =
    let is = dedup_is eqb _ _ c.dedup.ensures.filtered in rw is (IsStrictlyIncreasing-dedup _ c.sort_unstable.ensures.sorted)

pub returns-clause-near : goal.returns-clause-near
returns-clause-near c =
    let is = dedup_is eqb _ _ c.dedup.ensures.filtered in
    let pushed : c.push_linked-2.new.all.items ≡ near c.args.self.now.members (links_in c.args.direction c.args.self.now) c.args.place c.args.at c.args.own = search (rules, append_assoc) in
    let kept : All (Contains c.dedup.new.self.items) c.push_linked-2.new.all.items = All-weaker (Contains c.push_linked-2.new.all.items) (Contains c.dedup.new.self.items) (λ x h. rw is (Contains-dedup_nat _ x (Contains-permutation _ _ x c.sort_unstable.ensures.permutation h))) _ (All-contains_itself c.push_linked-2.new.all.items) in
    subst (All (Contains c.dedup.new.self.items)) pushed kept
