-- What stands near a location.
use Rattle.change_times.proofs.Words.{◌≡◌, List, map, length, get_or, sym, subst, arith, get_or-map, length-map, get_or-map-range_with_len, length-map-range_with_len, Contains-permutation, Contains, range_with_len, IsPermutation, StopRow, TransferRow, Link, Direction, link_of, member, HaveMembers, HaveRows}
use Rattle.std.proofs.lemmas.List.Elements.{Contains-get_or}

pub have-members : (stops : List StopRow) (made links : List Link) → made ≡ map (member stops) (range_with_len 0 (length stops)) → IsPermutation made links → HaveMembers stops links
have-members stops made links e moved b l =
    let at = get_or-map-range_with_len (member stops) 0 (length stops) b b (member stops b) l (omega arith) in
    let there = Contains-get_or (map (member stops) (range_with_len 0 (length stops))) b (member stops b) (omega (arith, length-map-range_with_len (member stops) 0 (length stops), l)) in
    Contains-permutation made links _ moved (subst (λ xs. Contains xs (member stops b)) (sym e) (subst (Contains (map (member stops) (range_with_len 0 (length stops)))) at there))

pub have-rows : (direction : Direction) (rows : List TransferRow) (made links : List Link) → made ≡ map (link_of direction) rows → IsPermutation made links → HaveRows direction rows links
have-rows direction rows made links e moved k d l =
    let link = link_of direction (get_or rows k d) in
    let at = get_or-map (link_of direction) rows k d link l in
    let there = Contains-get_or (map (link_of direction) rows) k link (omega (arith, length-map rows (link_of direction), l)) in
    Contains-permutation made links _ moved (subst (λ xs. Contains xs link) (sym e) (subst (Contains (map (link_of direction) rows)) at there))
