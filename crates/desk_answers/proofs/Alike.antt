-- What `desk` writes is the same over networks that are alike.
use Rattle.std.proofs.Common.{◌≡◌, ◌∙◌, [], ◌∷◌, ◌+◌, ap, refl, sym, arith, ℕ, List, Option, Result, Ok, Err}
use Rattle.board_laws.specs.Boards.{board, is_shown, rows_along, rows_from}
use Rattle.cause_laws.specs.Causes.{edges_by_rule}
use Rattle.cause_laws.specs.Chains.{why}
use Rattle.delay_model.specs.Edges.{edges, transfer}
use Rattle.delay_model.specs.Timing.{event_time}
use Rattle.delay_model.specs.declared.messages.Refusal.{Refusal}
use Rattle.delay_model.specs.declared.network.Network.{Network}
use Rattle.delay_model.specs.declared.overrides.Override.{Override}
use Rattle.delay_model.specs.declared.state.Call.{Call}
use Rattle.delay_model.specs.declared.state.Event.{Event}
use Rattle.delay_model.specs.declared.state.State.{State}
use Rattle.delay_model.specs.declared.state.Train.{Train}
use Rattle.desk_lines.specs.Questions.{departures_resolved}
use Rattle.desk_lines.specs.declared.lines.DeskLine.{DeskLine}
use Rattle.desk_lines.specs.declared.lines.DeskLine.TheVariants as desks
use Rattle.desk_lines.specs.declared.resolved.AskedDepartures.{AskedDepartures}
use Rattle.information_service.proofs.Networks.{reply-same, times-same}
use Rattle.information_service.proofs.TimesAlike.{line-keeps, line-over}
use Rattle.information_service.specs.Networks.{IsSame, IsWrittenAlike, over}
use Rattle.information_service.specs.ServiceState.{ServiceState}
use Rattle.message_reader.specs.Resolved.{node_named}
use Rattle.message_reader.specs.declared.bad_line.BadLine.{BadLine}
use Rattle.mt_base.specs.declared.keys.Node.{Node}
use Rattle.desk_answers.specs.DeskOutput.{IsReplyText, desk_output, desk_said_by}
use Rattle.desk_answers.specs.Questions.{chain_text, departures_text, event_text}

module _ (a b : Network) (h : IsSame a b) (st : State) where
  -- the same boards
  shown-same : (place since train route : ℕ) (c : Call) → is_shown b (event_time b st) place since train route c ≡ is_shown a (event_time a st) place since train route c
  shown-same place since train route c = grind (arith, h.station, times-same a b h st)

  along-same : (place since train route : ℕ) (cs : List Call) → rows_along b (event_time b st) place since train route cs ≡ rows_along a (event_time a st) place since train route cs
  along-same place since train route [] = refl
  along-same place since train route (c ∷ cs) = grind (arith, shown-same place since train route c, times-same a b h st, along-same place since train route cs)

  from-same : (place since first : ℕ) (trains : List Train) → rows_from b (event_time b st) place since first trains ≡ rows_from a (event_time a st) place since first trains
  from-same place since first [] = refl
  from-same place since first (t ∷ ts) = grind (arith, along-same place since first t.route t.calls, from-same place since (first + 1) ts)

  board-same : (place since n : ℕ) → board b st place since n ≡ board a st place since n
  unfolding board
  board-same place since n = grind (arith, from-same place since 0 st.trains)

  -- the same edges
  transfer-same : (choice : Option Override) (u v : Event) → transfer b choice u v ≡ transfer a choice u v
  unfolding transfer
  transfer-same choice u v = grind (arith, h.change, h.opts, h.wait)

  edges-same : edges b st ≡ edges a st
  unfolding edges
  edges-same = grind (arith, h.opts, transfer-same)

  rule-same : edges_by_rule b st ≡ edges_by_rule a st
  rule-same = grind (arith, transfer-same)

  -- the same chains
  why-same : (n : Node) → why b st n ≡ why a st n
  unfolding why
  why-same n = grind (arith, edges-same, rule-same, times-same a b h st)

module _ (nw : Network) (t : ServiceState) (same : IsSame nw t.network) where
  departures-same : (line : ℕ) (asked : Result AskedDepartures BadLine) → departures_text (over nw t) line asked ≡ departures_text t line asked
  departures-same line (Ok asked) = grind (arith, board-same nw t.network same t.state asked.place asked.since asked.rows)
  departures-same line (Err bad) = refl

  event-same : (line : ℕ) (event : Result Node Refusal) → event_text (over nw t) line event ≡ event_text t line event
  event-same line (Ok event) = ap (chain_text t line) (sym (why-same nw t.network same t.state event))
  event-same line (Err refusal) = refl

  reply-text-same : (line : ℕ) (said : Result DeskLine BadLine) (text : List ℕ) (now : ServiceState) → IsReplyText t line said text now → IsReplyText (over nw t) line said text (over nw now)
  reply-text-same line (Err bad) text now is = is
  reply-text-same line (Ok (desks.Line said)) text now is = record {
    reply = is.reply;
    is_reply = reply-same nw t.network same t.names t.state t.count line (Ok said) is.reply is.is_reply;
    text_is = is.text_is;
  }
  reply-text-same line (Ok (desks.Departures asked)) text now is = is ∙ sym (departures-same line (departures_resolved t.names asked))
  reply-text-same line (Ok (desks.Why asked)) text now is = is ∙ sym (event-same line (node_named t.names asked.dep asked.call))

pub desk-alike : IsWrittenAlike desk_output
desk-alike = record {
  begins = λ nw t kept same. refl;
  answers = λ nw t kept number x text now kept_now same one. record {
    reply = reply-text-same nw t same number (desk_said_by x) text now one.reply;
    leaves = ap (over nw) one.leaves ∙ sym (line-over nw t x same);
  };
  ends = λ nw t kept same. refl;
  keeps = λ t kept number x text now kept_now one. ap (λ (s : ServiceState). s.network) one.leaves ∙ line-keeps t x;
}
