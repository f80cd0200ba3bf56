-- The sums over the replies to windows.
use Rattle.window_service.proofs.Words.{◌≡◌, ◌∙◌, ◌∷◌, ◌++◌, ℕ, List, [], refl, sym, ap, subst, arith, append-nil, Network, State, lines_of, Line, Names, Reply, AreRepliesFrom, AreServed, AreReceivedFrom, AreAllReceived, ReceivesSums}
use Rattle.std.proofs.lemmas.Grind.{flat_map-append, fold-append}
use Rattle.query_crew.specs.Served.{AreWindowReplies, replies_of, text_from}
use Rattle.query_crew.specs.Windows.{windows_of, with_last}
use Rattle.query_crew.proofs.Ends.{read-windows}
use Rattle.query_crew.proofs.ServedLemmas.{counts-along, replies-more}
use Rattle.window_service.specs.declared.sums.ReplySums.{ReplySums}
use Rattle.window_service.specs.Sums.{no_sums, sums_after, sums_over, with_reply}
use Rattle.window_service.specs.Summed.{AreSummed}

module _ (nw : Network) (names : Names) (st : State) where
  sums-from : (before : List Line) (ws : List (List Line)) (rs : List (List Reply)) (old new : ReplySums)
      → AreRepliesFrom nw names st before ws rs → AreReceivedFrom ReceivesSums nw names st before ws rs old new → new ≡ sums_after old (replies_of rs)
  sums-from before [] [] old new are same = same
  sums-from before [] (r ∷ rs) old new are same = absurd are
  sums-from before (w ∷ ws) [] old new are same = absurd are
  sums-from before (w ∷ ws) (r ∷ rs) old new are taken =
      sums-from (before ++ w) ws rs taken.0 new are.1 taken.2 ∙ ap (λ (s : ReplySums). sums_after s (replies_of rs)) taken.1 ∙ sym (fold-append with_reply old r (replies_of rs))

  -- these are the sums over the replies to these windows, as they are written
  abbrev AreWindowsSummed : List (List Line) → ReplySums → Type 0
  AreWindowsSummed ws sums = (bytes : List ℕ) × (served : AreServed nw names st ws bytes) × (sums ≡ sums_over (replies_of served.replies))

  summed-by : (ws : List (List Line)) (rs : List (List Reply)) (sums : ReplySums) → AreRepliesFrom nw names st [] ws rs → sums ≡ sums_over (replies_of rs) → AreWindowsSummed ws sums
  summed-by ws rs sums are is = (text_from nw names st [] ws rs, record { replies = rs; are = are; counts = counts-along nw names st [] ws rs are; text = refl }, is)

  -- the last lines are a window if there are any
  last-summed : (ws : List (List Line)) (rs : List (List Reply)) (last : List Line) (r : List Reply) (mid new : ReplySums)
      → AreRepliesFrom nw names st [] ws rs → AreWindowReplies nw names st (lines_of ws) last r
      → mid ≡ sums_over (replies_of rs) → new ≡ sums_after mid r → AreWindowsSummed (with_last ws last) new
  last-summed ws rs [] [] mid new are one so_far ends = summed-by ws rs new are (ends ∙ so_far)
  last-summed ws rs [] (s ∷ r) mid new are one so_far ends = absurd (omega (arith, one.one_each))
  last-summed ws rs (x ∷ xs) r mid new are one so_far ends =
      summed-by (ws ++ (x ∷ xs) ∷ []) (rs ++ r ∷ []) new (replies-more nw names st [] ws rs (x ∷ xs) r are one)
      (ends ∙ ap (λ (s : ReplySums). sums_after s r) so_far ∙ sym (fold-append with_reply no_sums (replies_of rs) r)
      ∙ ap sums_over (sym (flat_map-append (λ (l : List Reply). l) rs (r ∷ []) ∙ ap (λ (l : List Reply). replies_of rs ++ l) (append-nil r))))

  pub all-summed : (lines : List Line) (new : ReplySums) → AreAllReceived ReceivesSums ReceivesSums nw names st lines no_sums new → AreSummed nw names st lines new
  all-summed lines new a =
      let so_far = sums-from [] a.windows a.received.replies no_sums a.mid a.received.are a.received.received in
      let ends = last-summed a.windows a.received.replies a.last a.ends.replies a.mid new a.received.are a.ends.are so_far a.ends.received in
      let all = subst (λ (ws : List (List Line)). AreWindowsSummed ws new) (sym (ap windows_of a.joined ∙ read-windows a.windows a.last a.are_read)) ends in
      record { output = all.0; served = all.1; sums_are = all.2 }
