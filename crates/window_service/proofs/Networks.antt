-- Networks with the same change times, waits and stations have the same replies to windows.
use Rattle.std.proofs.Common.{◌≡◌, ◌∙◌, ◌+◌, ◌++◌, ℕ, List, [], ◌∷◌, Result, Ok, Err, refl, ap, take, length}
use Rattle.delay_model.specs.declared.network.Network.{Network}
use Rattle.delay_model.specs.declared.state.State.{State}
use Rattle.delay_report.specs.declared.replies.Reply.{Reply}
use Rattle.information_service.specs.Lines.{messages_of, by_names, accepted_of, names_after, said_by}
use Rattle.information_service.specs.Networks.{IsSame}
use Rattle.information_service.proofs.Networks.{accepted-same, known-same, resolved-same, reply-same}
use Rattle.message_reader.specs.declared.bad_line.BadLine.{BadLine}
use Rattle.message_reader.specs.declared.wire.Line.{Line as Spoken}
use Rattle.message_reader.specs.declared.wire.Line.TheVariants.{Message as Says, Query as Asks, Flush}
use Rattle.message_reader.specs.declared.wire.WireQuery.{WireQuery}
use Rattle.message_reader.specs.ResolvedQueries.{query_resolved}
use Rattle.mt_io.specs.Lines.{Line}
use Rattle.schedule_build.specs.Directory.{Names}
use Rattle.query_crew.specs.Served.{IsQueryReply, IsReplyAt, AreWindowReplies, AreRepliesFrom, text_of_replies, text_from, AreServed, IsServed}
use Rattle.query_crew.specs.Windows.{windows_of}
use Rattle.window_service.specs.declared.sums.ReplySums.{ReplySums}
use Rattle.window_service.specs.Summed.{AreSummed}
use Rattle.window_service.specs.Whole.{AreWholeWindowsServed}

module _ (a b : Network) (h : IsSame a b) (names : Names) (st : State) where
  -- the same messages are accepted, and the same names are known after lines
  accepted-alike : (lines : List Line) → accepted_of b names st lines ≡ accepted_of a names st lines
  accepted-alike lines = accepted-same a b h by_names st names (messages_of lines)

  names-alike : (lines : List Line) → names_after b names st lines ≡ names_after a names st lines
  names-alike lines = known-same a b h by_names st names (messages_of lines)

  query-alike : (before window : List Line) (number : ℕ) (q : WireQuery) (reply : Reply) → IsQueryReply b names st before window number q reply → IsQueryReply a names st before window number q reply
  query-alike before window number q reply r =
      let first = accepted-alike before in
      let all = accepted-alike (before ++ window) in
      record {
        count = r.count;
        lower = rw first at r.lower;
        upper = rw all at r.upper;
        answers = resolved-same a b h _ r.count number (query_resolved names q) reply (rw all at r.answers);
      }

  reply-alike : (before window : List Line) (place : ℕ) (said : Result Spoken BadLine) (reply : Reply)
      → IsReplyAt b names st before window place said reply → IsReplyAt a names st before window place said reply
  reply-alike before window place (Ok (Asks q)) reply is = query-alike before window (length before + (place + 1)) q reply is
  reply-alike before window place (Ok (Says w)) reply is =
      reply-same a b h _ _ _ (length before + (place + 1)) (Ok (Says w)) reply (rw (accepted-alike (before ++ take place window), names-alike (before ++ take place window)) at is)
  reply-alike before window place (Ok Flush) reply is = rw (accepted-alike (before ++ take place window)) at is
  reply-alike before window place (Err bad) reply is = is

  window-alike : (before window : List Line) (replies : List Reply) → AreWindowReplies b names st before window replies → AreWindowReplies a names st before window replies
  window-alike before window replies w = record {
    one_each = w.one_each;
    are = λ place x reply at there. reply-alike before window place (said_by x) reply (w.are place x reply at there);
    counts = w.counts;
  }

  replies-alike : (before : List Line) (ws : List (List Line)) (rs : List (List Reply)) → AreRepliesFrom b names st before ws rs → AreRepliesFrom a names st before ws rs
  replies-alike before [] [] r = r
  replies-alike before [] (x ∷ rs) r = r
  replies-alike before (w ∷ ws) [] r = r
  replies-alike before (w ∷ ws) (x ∷ rs) r = (window-alike before w x r.0, replies-alike (before ++ w) ws rs r.1)

  text-alike : (before : List Line) (ws : List (List Line)) (rs : List (List Reply)) → text_from b names st before ws rs ≡ text_from a names st before ws rs
  text-alike before [] rs = refl
  text-alike before (w ∷ ws) [] = refl
  text-alike before (w ∷ ws) (r ∷ rs) =
      ap (λ (ns : Names). text_of_replies ns r ++ text_from b names st (before ++ w) ws rs) (names-alike (before ++ w))
      ∙ ap (λ (bytes : List ℕ). text_of_replies (names_after a names st (before ++ w)) r ++ bytes) (text-alike (before ++ w) ws rs)

  windows-alike : (ws : List (List Line)) (bytes : List ℕ) → AreServed b names st ws bytes → AreServed a names st ws bytes
  windows-alike ws bytes s = record {
    replies = s.replies;
    are = replies-alike [] ws s.replies s.are;
    counts = s.counts;
    text = s.text ∙ text-alike [] ws s.replies;
  }

-- the same is written for all lines, and for the whole windows of lines
pub served-same : (a b : Network) → IsSame a b → (names : Names) (st : State) (lines : List Line) (bytes : List ℕ) → IsServed b names st lines bytes → IsServed a names st lines bytes
served-same a b h names st lines bytes s = windows-alike a b h names st _ bytes s

pub whole-same : (a b : Network) → IsSame a b → (names : Names) (st : State) (lines : List Line) (bytes : List ℕ)
    → AreWholeWindowsServed b names st lines bytes → AreWholeWindowsServed a names st lines bytes
whole-same a b h names st lines bytes s = record {
  windows = s.windows;
  last = s.last;
  are_read = s.are_read;
  joined = s.joined;
  served = windows-alike a b h names st s.windows bytes s.served;
}

-- and the same sums are those over replies
pub summed-same : (a b : Network) → IsSame a b → (names : Names) (st : State) (lines : List Line) (sums : ReplySums) → AreSummed b names st lines sums → AreSummed a names st lines sums
summed-same a b h names st lines sums s = record {
  output = s.output;
  served = record {
    replies = s.served.replies;
    are = replies-alike a b h names st [] (windows_of lines) s.served.replies s.served.are;
    counts = s.served.counts;
    text = s.served.text ∙ text-alike a b h names st [] (windows_of lines) s.served.replies;
  };
  sums_are = s.sums_are;
}
