-- What is asked of marked events on the walk along the order of the keys.
use Rattle.propagate.proofs.Words.{◌≡◌, ℕ, ◌+◌, ◌-◌, ◌^◌, ◌<◌, true, false, List, Option, Some, None, unwrap_or, refl, sym, ◌∙◌, ap, subst, arith, inl, inr, All, All-contains, Contains}
use Rattle.propagate.proofs.Words.{Key, node_of, Event, Edge, events, event_named, edges, incoming, local, IsLiveAt, IsValid, StoredTimes, time_of, edges_to, stored_time, GraphState, FollowsRule, IsOrderOf, Marked, is_marked}
use Rattle.std.specs.Option.{IfSome}
use Rattle.propagate.specs.Asked.{TellsTime, entry_of, nothing}
use Rattle.propagate.specs.declared.asked.Asked.{Asked}
use Rattle.propagate.specs.declared.asked.AskedTable.{AskedTable}
use Rattle.propagate.proofs.Asks.{AreCovered, asks-to, told-earlier, told-later}
use Rattle.propagate.proofs.AtKeys.{by-rule, into, named, value-is}
use Rattle.propagate.proofs.Idle.{floors}
use Rattle.propagate.proofs.Ordered.{key-live}

-- a marked event, that was not marked at first, and what is asked of it
pub record IsAsked (g : GraphState) (old : StoredTimes) (first : Marked) (times : StoredTimes) (marks : Marked) (k : Key) (a : Asked) : Type 0 where
  pub marked : is_marked marks k ≡ true
  pub fresh : is_marked first k ≡ false
  pub covered : AreCovered (stored_time old) (stored_time times) (incoming (edges g.network g.state) k) a

-- what is left to settle: marks of it are not taken off, nothing is asked of what is not marked, and what a table knows is asked
pub record AreAsked (g : GraphState) (old : StoredTimes) (first : Marked) (rest : List Key) (times : StoredTimes) (marks : Marked) (table : AskedTable) : Type 0 where
  pub kept : (q : Key) → Contains rest q → is_marked first q ≡ true → is_marked marks q ≡ true
  pub quiet : (q : Key) → Contains rest q → is_marked marks q ≡ false → AreCovered (stored_time old) (stored_time times) (incoming (edges g.network g.state) q) nothing
  pub known : (q : Key) (a : Asked) → entry_of table q ≡ Some a → IsAsked g old first times marks q a

-- at first
pub asked-first : (g : GraphState) (old : StoredTimes) (first : Marked) (rest : List Key) (table : AskedTable) → ((q : Key) → entry_of table q ≡ None) → AreAsked g old first rest old first table
asked-first g old first rest table none =
    record {
      kept = λ q h marked. marked;
      quiet = λ q h free. record { each = λ i d l. inl refl; attained = inl refl };
      known = λ q a h. let no = none q in absurd (cc);
    }

module _ (g : GraphState) (valid : IsValid g.network g.state) {order : List Key} (is : IsOrderOf (events g.state) order) (old times : StoredTimes) (a : Asked) where
  -- what is asked of a live event tells its time
  module _ (v : Event) (there : Contains (events g.state) v) (live : v.live ≡ true) (h : Contains order v.key) (covered : AreCovered (stored_time old) (stored_time times) (incoming (edges g.network g.state) v.key) a) (own : FollowsRule g old v.key) (kept : time_of times (node_of v.key) ≡ time_of old (node_of v.key)) (fits : All (λ (e : Edge). stored_time times e.from + e.weight < 2 ^ 25) (edges_to g (node_of v.key))) where
    abbrev at : IsLiveAt (events g.state) v.key
    at = (v, there, refl, live)

    value : (was : ℕ) → time_of times (node_of v.key) ≡ Some was → was ≡ local (events g.state) (edges g.network g.state) (stored_time old) v
    value was stored = ap (λ o. unwrap_or o 0) (sym stored ∙ kept) ∙ value-is g valid is old v.key at own

    small : a.after < 2 ^ 25
    small =
        elim covered.attained [
          | inl none ↦ omega (arith, none)
          | inr one ↦
              let fit = All-contains (λ (e : Edge). stored_time times e.from + e.weight < 2 ^ 25) (incoming (edges g.network g.state) v.key) one.0 (rw (into g valid is v.key h) at fits) one.1 in
              let asks = asks-to one.0 (stored_time times one.0.from) (2 ^ 25 - 1) (λ _. omega (arith, fit)) in
              omega (arith, asks, one.3)
        ]

    live-tells : TellsTime g times v a
    live-tells =
        let t = stored_time old in
        let u = stored_time times in
        let es = events g.state in
        let before = floors g.network g.state t v in
        let after = floors g.network g.state u v in
        record {
          small = small;
          later = λ was stored l. by-rule g valid is times v.key at ∙ ap Some (told-later es (edges g.network g.state) t u v a covered before after was (value was stored) l);
          earlier = λ was stored l k. by-rule g valid is times v.key at ∙ ap Some (told-earlier es (edges g.network g.state) t u v a covered before after was (value was stored) l k);
        }

  pub tells : (k : Key) (h : Contains order k) → AreCovered (stored_time old) (stored_time times) (incoming (edges g.network g.state) k) a → FollowsRule g old k → time_of times (node_of k) ≡ time_of old (node_of k) → All (λ (e : Edge). stored_time times e.from + e.weight < 2 ^ 25) (edges_to g (node_of k)) → (v : Event) → event_named g.state (node_of v.key) ≡ Some v → node_of v.key ≡ node_of k → TellsTime g times v a
  tells k h covered own kept fits v there name =
      let at = key-live (events g.state) order is k h in
      let found = named g valid is k at in
      let same : v ≡ at.0 = let here = rw name at there in grind (arith, here, found) in
      let P : Key → Type 0 = λ q. Contains order q → AreCovered (stored_time old) (stored_time times) (incoming (edges g.network g.state) q) a → FollowsRule g old q → time_of times (node_of q) ≡ time_of old (node_of q) → All (λ (e : Edge). stored_time times e.from + e.weight < 2 ^ 25) (edges_to g (node_of q)) → TellsTime g times at.0 a in
      subst (λ w. TellsTime g times w a) (sym same) (subst P at.2 (live-tells at.0 at.1 at.3) h covered own kept fits)

-- of what a table gives out
pub if-known : (o : Option Asked) (P : Asked → Type 0) → ((a : Asked) → o ≡ Some a → P a) → IfSome o P
if-known None P h = grind arith
if-known (Some a) P h = h a refl
