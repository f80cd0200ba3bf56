-- The tables keep their rows.
use Rattle.conn_scan.proofs.Words.{◌≡◌, ℕ, ◌≤◌, ◌<◌, ◌&&◌, Bool, true, false, List, [], ◌∷◌, Option, Some, None, length, set, replicate, refl, sym, ◌∙◌, ap, subst, arith, option_map_or, cases_Bool, cond_both, length-replicate, length-set, Query, ChangeTables, Leaving, reached, at_origin, begun, cleared, lowered, arrived, boarding, departed, is_first_arrival, is_there_by, ride_by, rode, scanned, stayed, HasRoomFor, HasSameRoom, Known, Openings, Stretch}
use Rattle.conn_scan.proofs.OpeningsLemmas.{length-lowered_rides, length-lowered_times}

pub same-room : (k : Known) → HasSameRoom k k
same-room k = record { held = refl; times = refl; rides = refl; aboard = refl }

pub room-then : (a b c : Known) → HasSameRoom a b → HasSameRoom b c → HasSameRoom a c
room-then a b c h k = record { held = k.held ∙ h.held; times = k.times ∙ h.times; rides = k.rides ∙ h.rides; aboard = k.aboard ∙ h.aboard }

pub room-kept : (stops numbers : ℕ) (old new : Known) → HasSameRoom old new → HasRoomFor stops numbers old → HasRoomFor stops numbers new
room-kept stops numbers old new same room = record {
  held = omega (arith, same.held, room.held);
  times = omega (arith, same.times, room.times);
  rides = omega (arith, same.rides, room.rides);
  aboard = omega (arith, same.aboard, room.aboard);
}

module _ (t : ChangeTables) (q : Query) where
  pub room-begun : (k : Known) → HasSameRoom k (begun t q k)
  room-begun k =
      let first = lowered q.time None (reached t q.from_stop) (cleared k).openings in
      record {
        held = length-replicate (length k.held) None;
        times = length-lowered_times q.time None (at_origin t q) first ∙ length-lowered_times q.time None (reached t q.from_stop) (cleared k).openings ∙ length-replicate (length k.openings.times) None;
        rides = length-lowered_rides q.time None (at_origin t q) first ∙ length-lowered_rides q.time None (reached t q.from_stop) (cleared k).openings;
        aboard = length-replicate (length k.aboard) None;
      }

  pub room-arrived : (d : Leaving) (r : Stretch) (k : Known) → HasSameRoom k (arrived t q d r k)
  room-arrived d r k = record {
    held = length-set k.held d.to (Some d.arrival);
    times = length-lowered_times d.arrival (Some r) (reached t d.to) k.openings;
    rides = length-lowered_rides d.arrival (Some r) (reached t d.to) k.openings;
    aboard = refl;
  }

  pub room-stayed : (b : ℕ) (d : Leaving) (k : Known) → HasSameRoom k (stayed b d k)
  room-stayed b d k = record { held = refl; times = refl; rides = refl; aboard = length-set k.aboard d.next (Some b) }

  pub room-rode : (b : ℕ) (d : Leaving) (k : Known) → HasSameRoom k (rode t q b d k)
  room-rode b d k =
      cond_both (is_first_arrival (length t.stops) d k) (arrived t q d (ride_by b d) (stayed b d k)) (stayed b d k) (HasSameRoom k)
      (λ _. room-then k (stayed b d k) (arrived t q d (ride_by b d) (stayed b d k)) (room-stayed b d k) (room-arrived d (ride_by b d) (stayed b d k))) (λ _. room-stayed b d k)

  room-boarding : (d : Leaving) (k : Known) (o : Option ℕ) → HasSameRoom k (option_map_or (λ b. rode t q b d k) o k)
  room-boarding d k None = same-room k
  room-boarding d k (Some b) = room-rode b d k

  pub room-departed : (d : Leaving) (k : Known) → HasSameRoom k (departed t q d k)
  room-departed d k = room-boarding d k (boarding d k)
