-- Live events by their keys, the edges that lead from events of a list, and the times that are stored after a message.
use Rattle.propagate.proofs.StepWords.{◌≡◌, ◌&&◌, true, false, not, List, sym, ◌∙◌, ap, subst, Some, All-contains, Contains, Contains-filter}
use Rattle.propagate.proofs.StepWords.{list_any, and_from, and_parts, any-there, true_from_ne_false, Key, node_of, is_same, same-is, same-itself}
use Rattle.propagate.proofs.StepWords.{Edge, Event, State, Network, IsLiveAt, events, live_events, is_live_key, live_only, is_fed_by, StoredTimes, time_of, no_time, live_keys, HasItsTime, AreStored}
pub use Rattle.propagate.proofs.Named.{any-from}
pub use Rattle.propagate.proofs.Ordered.{filtered, keyed-live, live-keyed}

pub live-at : (es : List Event) (k : Key) → is_live_key es k ≡ true → IsLiveAt es k
live-at es k h =
    let found = any-there (λ v. v.live && is_same v.key k) es h in
    let both = and_parts found.0.live (is_same found.0.key k) found.2 in
    (found.0, found.1, same-is found.0.key k both.1, both.0)

-- an event that is live in the one list is live only there, where no event with its key is live in the other
pub only-there : (es fs : List Event) (k : Key) (at : IsLiveAt es k) → is_live_key fs k ≡ false → Contains (live_only es fs) at.0
only-there es fs k at none =
    Contains-filter (λ (v : Event). not (is_live_key fs v.key)) (live_events es) at.0 (Contains-filter (λ (v : Event). v.live) es at.0 at.1 at.3)
    (ap (λ q. not (is_live_key fs q)) at.2 ∙ ap not none)

-- an edge from an event of a list feeds the event to which it leads
pub fed-from : (gs : List Edge) (es : List Event) (k : Key) (e : Edge) (u : Event) → Contains gs e → is_same e.to k ≡ true → Contains es u → u.key ≡ e.from → is_fed_by gs es k ≡ true
fed-from gs es k e u h to there own =
    any-from (λ (e : Edge). is_same e.to k && list_any (λ (v : Event). is_same e.from v.key) es) gs e h
    (and_from _ _ to (any-from (λ (v : Event). is_same e.from v.key) es u there (ap (is_same e.from) own ∙ same-itself e.from)))

-- with more edges and more events still more is fed
pub fed-more : (gs hs : List Edge) (es fs : List Event) (k : Key) → ((e : Edge) → Contains gs e → Contains hs e) → ((u : Event) → Contains es u → Contains fs u) → is_fed_by gs es k ≡ true → is_fed_by hs fs k ≡ true
fed-more gs hs es fs k edges_too events_too h =
    let r = any-there (λ (e : Edge). is_same e.to k && list_any (λ (v : Event). is_same e.from v.key) es) gs h in
    let both = and_parts (is_same r.0.to k) (list_any (λ (v : Event). is_same r.0.from v.key) es) r.2 in
    let u = any-there (λ (v : Event). is_same r.0.from v.key) es both.1 in
    fed-from hs fs k r.0 u.0 (edges_too r.0 r.1) both.0 (events_too u.0 u.1) (sym (same-is r.0.from u.0.key u.2))

-- where nothing that is live only in the one list feeds an event, each edge to it from one that is live there leads from one that is
-- live in the other, too
pub origin-lives : (gs : List Edge) (es fs : List Event) (k : Key) → is_fed_by gs (live_only es fs) k ≡ false → (e : Edge) → Contains gs e → is_same e.to k ≡ true → IsLiveAt es e.from → IsLiveAt fs e.from
origin-lives gs es fs k unfed e h to at =
    live-at fs e.from (true_from_ne_false _ (λ gone. let fed = fed-from gs (live_only es fs) k e at.0 h to (only-there es fs e.from at gone) at.2 in absurd (cc)))

module _ (nw : Network) (old new : State) (times : StoredTimes) (stored : AreStored nw old new times) where
  -- for what was live before a message its time then is stored
  pub old-time : (k : Key) → IsLiveAt (events old) k → HasItsTime nw old times k
  old-time k at = All-contains (HasItsTime nw old times) (live_keys (events old)) k stored.known (live-keyed (events old) k at)

  -- and for what was not, the time that no event has
  pub new-time : (k : Key) → IsLiveAt (events new) k → is_live_key (events old) k ≡ false → time_of times (node_of k) ≡ Some no_time
  new-time k at none =
      subst (λ (q : Key). time_of times (node_of q) ≡ Some no_time) at.2
      (All-contains (λ v. time_of times (node_of v.key) ≡ Some no_time) (live_only (events new) (events old)) at.0 stored.made (only-there (events new) (events old) k at none))
