use Rattle.window_service.proofs.Words.{◌≡◌, refl, sym, ap, subst, inl, inr, ServiceState, Names, handed_on, on_ok_weaker, IfErr-weaker}
use Rattle.information_service.proofs.Ends.{memory_not_write}
use Rattle.information_service.specs.declared.fault.LinesFault.TheVariants.{OutOfMemory, WriteFault}
use Rattle.window_service.proofs.windows.answer_window.Goals as goal

pub returns-clause-answered : goal.returns-clause-answered
returns-clause-answered g c =
    let replies = c.in_ok-replies.replies.items in
    on_ok_weaker c.receive.result (λ got nw names st before window stands first_is lines_are.
    let now = c.in_ok-replies.ensures.stands nw names st before window stands first_is lines_are in
    record {
      stands = now;
      one = record {
        replies = replies;
        are = c.in_ok-replies.ensures.replies nw names st before window stands first_is lines_are;
        received = subst (λ (ns : Names). g.T.ReceiveReplies.receives c.args.out.now c.receive.new.out ns replies)
            (sym (ap (λ (s : ServiceState). s.names) now.is)) (rw (c.as_slice.ensures.value, c.directory.ensures) at got);
      };
    })
    c.receive.ensures.ok

pub returns-in_err-replies-clause-begun : goal.returns-in_err-replies-clause-begun
returns-in_err-replies-clause-begun g c = handed_on c.from_residual.result OutOfMemory _ c.from_residual.ensures.1 (λ nw names st before window stands first_is lines_are. inl (refl, memory_not_write))

pub returns-clause-begun : goal.returns-clause-begun
returns-clause-begun g c =
    let replies = c.in_ok-replies.replies.items in
    IfErr-weaker c.receive.result _ _ (λ f began nw names st before window stands first_is lines_are.
    let now = c.in_ok-replies.ensures.stands nw names st before window stands first_is lines_are in
    inr (record {
      replies = replies;
      are = c.in_ok-replies.ensures.replies nw names st before window stands first_is lines_are;
      received = subst (λ (ns : Names). g.T.ReceiveReplies.begins (f ≡ WriteFault) c.args.out.now c.receive.new.out ns replies)
          (sym (ap (λ (s : ServiceState). s.names) now.is)) (rw (c.as_slice.ensures.value, c.directory.ensures) at began);
    }))
    c.receive.ensures.front

pub returns-clause-ready : goal.returns-clause-ready
returns-clause-ready g c = on_ok_weaker c.receive.result (λ took. c.in_ok-replies.ensures.ready) c.receive.ensures.ok
