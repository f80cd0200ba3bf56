use Rattle.window_service.proofs.Words.{on_ok_weaker, IfErr-weaker, where_also}
use Rattle.window_service.proofs.Written.{either-front, whole-told, whole-written}
use Rattle.window_service.proofs.output.write_windows.Goals as goal

pub returns-clause-ok : goal.returns-clause-ok
returns-clause-ok g c = on_ok_weaker c.receive_windows.result (λ whole. λ bytes told. whole-told g.K.Sink.written _ _ _ _ _ whole bytes told) c.receive_windows.ensures.all

pub returns-clause-ended : goal.returns-clause-ended
returns-clause-ended g c = on_ok_weaker c.receive_windows.result (λ whole. whole.ended.left) c.receive_windows.ensures.all

pub returns-clause-stopped : goal.returns-clause-stopped
returns-clause-stopped g c =
    IfErr-weaker c.receive_windows.result _ _ (λ f had. where_also _ _ f (λ p. (p.bytes, p.took, whole-written g.K.Sink.written _ _ _ _ _ _ p.whole)) had) c.receive_windows.ensures.stopped

pub returns-clause-front : goal.returns-clause-front
returns-clause-front g c = either-front g.K.Sink.written _ _ _ c.receive_windows.result _ _ c.receive_windows.ensures.all c.receive_windows.ensures.begun
