use Rattle.schedule_build.proofs.Words.{rules}
use Rattle.std.proofs.lemmas.Fn.{always_returns_same}
use Rattle.schedule_build.proofs.ExtraLemmas.{searched-numbers}
use Rattle.schedule_build.specs.StoredExtras.{name_of, name_cmp, name_at}
use Rattle.schedule_build.proofs.extra_trains.search.Goals as goal

-- the closure compares the name of a number
pub returns : goal.returns
returns c =
    let names = c.args.names.now in
    let name = name_of c.args.trip.now c.args.day in
    let facts = c.binary_search_by.ensures in
    let by_number = facts.position (λ n. name_cmp (name_at names n) name) (always_returns_same _ _ _ (λ a r g called. search rules)) in
    searched-numbers names c.args.order.now name c.binary_search_by.result c.requires facts.bound by_number
