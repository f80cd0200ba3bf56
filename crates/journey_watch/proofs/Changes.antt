-- What is told over a run of messages are the changes.
use Rattle.std.proofs.Common.{◌≡◌, zero, suc, cond, List, [], ◌∷◌, map, refl, ◌∙◌, ap, arith}
use Rattle.delay_model.specs.declared.messages.Message.{Message}
use Rattle.delay_model.specs.declared.network.Network.{Network}
use Rattle.delay_model.specs.declared.state.State.{State}
use Rattle.delay_model.specs.Effect.{effect}
use Rattle.standing_laws.specs.declared.standings.Alert.{Alert}
use Rattle.journey_watch.specs.declared.watched.Watched.{Watched}
use Rattle.journey_watch.specs.Runs.{alerts_along, changes_along, changes_of}
use Rattle.journey_watch.specs.Watching.{AreKept, alert_of, alerts_of, is_same_standing, renewed, standing_in}

module _ (nw : Network) where
  -- what is told are the changes from the state in which all are kept
  pub told-changes : (old new : State) (ws : List Watched) → AreKept nw old ws → alerts_of nw new ws ≡ changes_of nw old new ws
  told-changes old new [] kept = refl
  told-changes old new (w ∷ ws) kept =
      let own : standing_in nw old w ≡ w.standing = kept 0 w (omega arith) in
      rw (own, told-changes old new ws (λ k d within. kept (suc k) d (omega arith))) refl

  -- the standings that are kept do not matter to them
  changes-same : (old new kept : State) (ws : List Watched) → changes_of nw old new (map (renewed nw kept) ws) ≡ changes_of nw old new ws
  changes-same old new kept [] = refl
  changes-same old new kept (w ∷ ws) =
      ap (λ (told : List Alert). cond (is_same_standing (standing_in nw new w) (standing_in nw old w)) told (alert_of nw new w ∷ told)) (changes-same old new kept ws)

  along-same : (st kept : State) (ws : List Watched) (ms : List Message) → changes_along nw st (map (renewed nw kept) ws) ms ≡ changes_along nw st ws ms
  along-same st kept ws [] = refl
  along-same st kept ws (m ∷ ms) = λ i. changes-same st (effect st m) kept ws i ∷ along-same (effect st m) kept ws ms i

  -- the standings of a state are kept in it
  pub renewed-kept : (st : State) (ws : List Watched) → AreKept nw st (map (renewed nw st) ws)
  renewed-kept st [] k d within = absurd (omega arith)
  renewed-kept st (w ∷ ws) zero d within = refl
  renewed-kept st (w ∷ ws) (suc k) d within = renewed-kept st ws k d (omega arith)

  pub told-along : (st : State) (ws : List Watched) (ms : List Message) → AreKept nw st ws → alerts_along nw st ws ms ≡ changes_along nw st ws ms
  told-along st ws [] kept = refl
  told-along st ws (m ∷ ms) kept =
      let new = effect st m in
      ap (λ (told : List Alert). told ∷ alerts_along nw new (map (renewed nw new) ws) ms) (told-changes st new ws kept)
      ∙ ap (λ (rest : List (List Alert)). changes_of nw st new ws ∷ rest) (told-along new (map (renewed nw new) ws) ms (renewed-kept new ws) ∙ along-same new new ws ms)
