-- Tables with the same change times have as many pairs.
use Rattle.change_times.proofs.Words.{◌≡◌, ℕ, Option, None, false, length, refl, sym, ◌∙◌, ap, length-map, if◌then◌else◌, filter, filter_map, range_with_len, sum_by, option_map, option_map_or, PlaceKind, is_platform, is_platform_or_station, kind_of, change, Change, ChangeTables, HaveSameChanges, without_id, pairs, reached}

change-if : ℕ → Option PlaceKind → Option ℕ → Option Change
change-if b kind seconds =
    if option_map_or is_platform kind false then option_map (λ s. record { stop = b; seconds = s }) seconds else None

-- the pairs by the kinds of the locations, the change times, and how many locations there are
pairs-by : (ℕ → Option PlaceKind) → (ℕ → ℕ → Option ℕ) → ℕ → ℕ
pairs-by kind seconds n =
    sum_by (λ a. length (filter_map (λ b. change-if b (kind b) (seconds a b)) (range_with_len 0 n))) (filter (λ a. option_map_or is_platform_or_station (kind a) false) (range_with_len 0 n))

pairs-is : (t : ChangeTables) → pairs t ≡ pairs-by (kind_of t.stops) (change t.stops t.transfers t.default) (length t.stops)
unfolding pairs reached pairs-by change-if
pairs-is t = refl

pub pairs-same : (t c : ChangeTables) → HaveSameChanges t c → pairs c ≡ pairs t
pairs-same t c h =
    let kind : kind_of c.stops ≡ kind_of t.stops = λ i a. h.kind a i in
    let seconds : change c.stops c.transfers c.default ≡ change t.stops t.transfers t.default = λ i a b. h.change a b i in
    let count : length c.stops ≡ length t.stops = ap length h.stops ∙ length-map t.stops without_id in
    pairs-is c ∙ ap (λ k. pairs-by k (change c.stops c.transfers c.default) (length c.stops)) kind
    ∙ ap (λ s. pairs-by (kind_of t.stops) s (length c.stops)) seconds
    ∙ ap (pairs-by (kind_of t.stops) (change t.stops t.transfers t.default)) count ∙ sym (pairs-is t)
