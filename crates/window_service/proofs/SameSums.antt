-- Replies to the same windows have the same sums, where no query shares its window with a message.
use Rattle.window_service.proofs.Words.{◌≡◌, ◌∙◌, ◌+◌, ◌∷◌, ◌++◌, ℕ, List, [], length, All, true, refl, sym, ap, subst, arith, inl, inr, append-nil, Network, State, Line, Names, Reply, AreRepliesFrom}
use Rattle.std.proofs.Common.{suc, take, slice_get, Some, Result, Ok, Err, true≢false}
use Rattle.std.proofs.lemmas.Grind.{fold-append}
use Rattle.std.proofs.lemmas.List.Elements.{filter_map-append}
use Rattle.std.proofs.lemmas.List.Folds.{list_any_at}
use Rattle.std.proofs.lemmas.Option.{slice_get_within, get_or_from_slice_get}
use Rattle.delay_model.specs.After.{accepted, after_messages}
use Rattle.information_service.specs.Lines.{said_by, messages_of, by_names, accepted_of}
use Rattle.information_service.specs.Output.{IsReplyToResolved}
use Rattle.message_reader.specs.declared.bad_line.BadLine.{BadLine}
use Rattle.message_reader.specs.declared.resolve_queries.AskedQuery.{AskedQuery}
use Rattle.message_reader.specs.declared.wire.Line.{Line as Spoken}
use Rattle.message_reader.specs.declared.wire.Line.TheVariants.{Query as Asks}
use Rattle.message_reader.specs.declared.wire.WireQuery.{WireQuery}
use Rattle.message_reader.specs.Lines.{message_in}
use Rattle.message_reader.specs.ResolvedQueries.{query_resolved}
use Rattle.query_crew.specs.Served.{IsQueryReply, IsReplyAt, AreWindowReplies, replies_of}
use Rattle.query_crew.specs.Windows.{windows_of}
use Rattle.window_service.specs.declared.sums.ReplySums.{ReplySums}
use Rattle.window_service.specs.Sums.{added, no_sums, reply_sums, sums_after, with_reply}
use Rattle.window_service.specs.SameSums.{is_query, says_query, AreApart, SumsAreTheSame}

-- each of two earliest journeys arrives no later than the other
asked-same : (nw : Network) (st : State) (count line : ℕ) (asked : Result AskedQuery BadLine) (r s : Reply)
    → IsReplyToResolved nw st count line asked r → IsReplyToResolved nw st count line asked s → reply_sums r ≡ reply_sums s
asked-same nw st count line (Ok asked) r s i j = grind arith
asked-same nw st count line (Err bad) r s i j = ap reply_sums (i ∙ sym j)

-- a window with a query has no message
no-message : (w : List Line) (place : ℕ) (x : Line) → AreApart w → slice_get w place ≡ Some x → is_query x ≡ true → messages_of w ≡ []
no-message w place x (inr none) at asks = none
no-message w place x (inl none) at asks =
    absurd (true≢false (sym (list_any_at is_query w place x (slice_get_within w place x at) (ap is_query (get_or_from_slice_get w place x x at) ∙ asks)) ∙ none))

-- sums after replies to the same lines, each two of which count for the same
sums-same : (xs : List Line) (rs ss : List Reply) (old : ReplySums) → length rs ≡ length xs → length ss ≡ length xs
    → ((place : ℕ) (x : Line) (r s : Reply) → slice_get xs place ≡ Some x → slice_get rs place ≡ Some r → slice_get ss place ≡ Some s → reply_sums r ≡ reply_sums s)
    → sums_after old rs ≡ sums_after old ss
sums-same [] [] [] old one two h = refl
sums-same (x ∷ xs) (r ∷ rs) (s ∷ ss) old one two h =
    ap (λ (t : ReplySums). sums_after (added old t) rs) (h 0 x r s refl refl refl)
    ∙ sums-same xs rs ss (added old (reply_sums s)) (omega (arith, one)) (omega (arith, two)) (λ place y t u at_line at_one at_two. h (suc place) y t u at_line at_one at_two)
sums-same xs rs ss old one two h = absurd (omega (arith, one, two))

module _ (nw : Network) (names : Names) (st : State) where
  -- lines without a message leave the accepted ones as they are
  none-accepted : (before w : List Line) → messages_of w ≡ [] → accepted_of nw names st (before ++ w) ≡ accepted_of nw names st before
  none-accepted before w none =
      ap (accepted nw by_names st names) (filter_map-append (λ (x : Line). message_in (said_by x)) before w ∙ ap (λ ms. messages_of before ++ ms) none ∙ append-nil (messages_of before))

  -- so a query among them is answered in one state
  query-same : (before w : List Line) (number : ℕ) (q : WireQuery) (r s : Reply)
      → messages_of w ≡ [] → IsQueryReply nw names st before w number q r → IsQueryReply nw names st before w number q s → reply_sums r ≡ reply_sums s
  query-same before w number q r s none i j =
      let state = λ (n : ℕ). after_messages st (take n (accepted_of nw names st (before ++ w))) in
      let same : j.count ≡ i.count = omega (arith, ap length (none-accepted before w none), i.lower, i.upper, j.lower, j.upper) in
      asked-same nw (state i.count) i.count number (query_resolved names q) r s i.answers (subst (λ (n : ℕ). IsReplyToResolved nw (state n) n number (query_resolved names q) s) same j.answers)

  -- a line other than a query has one reply
  said-same : (before w : List Line) (place : ℕ) (said : Result Spoken BadLine) (r s : Reply) → (says_query said ≡ true → messages_of w ≡ [])
      → IsReplyAt nw names st before w place said r → IsReplyAt nw names st before w place said s → reply_sums r ≡ reply_sums s
  said-same before w place (Ok (Asks q)) r s none i j = query-same before w (length before + (place + 1)) q r s (none refl) i j
  said-same before w place said r s none i j = ap reply_sums (i ∙ sym j)

  window-same : (before w : List Line) (rs ss : List Reply) (old : ReplySums)
      → AreApart w → AreWindowReplies nw names st before w rs → AreWindowReplies nw names st before w ss → sums_after old rs ≡ sums_after old ss
  window-same before w rs ss old apart a b =
      sums-same w rs ss old a.one_each b.one_each (λ place x r s at_line at_one at_two.
      said-same before w place (said_by x) r s (no-message w place x apart at_line) (a.are place x r at_line at_one) (b.are place x s at_line at_two))

  windows-same : (before : List Line) (ws : List (List Line)) (rs ss : List (List Reply)) (old : ReplySums)
      → All AreApart ws → AreRepliesFrom nw names st before ws rs → AreRepliesFrom nw names st before ws ss
      → sums_after old (replies_of rs) ≡ sums_after old (replies_of ss)
  windows-same before [] [] [] old apart a b = refl
  windows-same before [] (r ∷ rs) ss old apart a b = absurd a
  windows-same before [] [] (s ∷ ss) old apart a b = absurd b
  windows-same before (w ∷ ws) [] ss old apart a b = absurd a
  windows-same before (w ∷ ws) (r ∷ rs) [] old apart a b = absurd b
  windows-same before (w ∷ ws) (r ∷ rs) (s ∷ ss) old apart a b =
      fold-append with_reply old r (replies_of rs)
      ∙ ap (λ (t : ReplySums). sums_after t (replies_of rs)) (window-same before w r s old (apart 0 w (omega arith)) a.0 b.0)
      ∙ windows-same (before ++ w) ws rs ss (sums_after old s) (λ k d l. apart (suc k) d (omega (arith, l))) a.1 b.1
      ∙ sym (fold-append with_reply old s (replies_of ss))

pub same-sums : SumsAreTheSame
same-sums nw names st lines a b apart one two =
    one.sums_are ∙ windows-same nw names st [] (windows_of lines) one.served.replies two.served.replies no_sums apart one.served.are two.served.are ∙ sym two.sums_are
