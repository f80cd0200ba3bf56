use Rattle.std.proofs.Common.{◌∙◌, Err, ap, refl}
use Rattle.mt_io.specs.Causes.{counted}
use Rattle.commands.proofs.Endings.{early-behind, early-feed, early-handed, early-own, early-same, early-words, not-error, same-error}
use Rattle.commands.proofs.Tables.{by-line, same-table, was-loaded}
use Rattle.commands.proofs.beginning.begin.Goals as goal

pub returns-in-Err-clause-stopped : goal.returns-in-Err-clause-stopped
returns-in-Err-clause-stopped g c = early-same c.from.result _ c.from.ensures (early-words (λ absent. refl) c.in-Err.fault refl (λ is. c.in-Err.ensures.usage (ap Err is)))

pub returns-in_err-own-clause-stopped : goal.returns-in_err-own-clause-stopped
returns-in_err-own-clause-stopped g c =
    early-handed c.from_residual.result _ c.from_residual.ensures.1
    (early-own c.in-Ok.ensures.ok c.in_err-own.field-0.0 c.in_err-own.ensures.fault
    (λ is. c.in_err-own.ensures.failed (ap Err is)) (λ other. c.in_err-own.ensures.answered (λ is. other (same-error _ _ _ refl is))))

pub returns-in-Err-load_service-clause-stopped : goal.returns-in-Err-load_service-clause-stopped
returns-in-Err-load_service-clause-stopped g c =
    let same = c.in_ok-own.ensures.same in
    let kept = c.in_ok-own.ensures.answered (not-error _ _) in
    early-feed c.in-Ok.ensures.ok c.in-Err-load_service.error c.feed_stop.result c.feed_stop.ensures (λ told is. c.in-Err-load_service.ensures.exact told (same ∙ is))
    (λ is. c.in-Err-load_service.ensures.failed (ap Err is) ∙ ap counted kept) (λ other. c.in-Err-load_service.ensures.answered (λ is. other (same-error _ _ _ refl is)) ∙ kept)

pub returns-in_err-kept-clause-stopped : goal.returns-in_err-kept-clause-stopped
returns-in_err-kept-clause-stopped g c =
    let same = c.in_ok-own.ensures.same in
    let kept = c.in_ok-own.ensures.answered (not-error _ _) in
    early-handed c.from_residual-in_err-kept.result _ c.from_residual-in_err-kept.ensures.1
    (early-behind c.load_behind.new.service c.networks_are_begun_alike.ensures c.in-Ok-load_service.ensures.new
    (was-loaded c.in-Ok.ensures.ok (λ told is. c.in-Ok-load_service.ensures.exact told (same ∙ is)) (λ told rows is are. c.in-Ok-load_service.ensures.network told rows (same ∙ is) are))
    (c.in-Ok-load_service.ensures.answered (not-error _ _) ∙ kept) c.in_err-kept.field-0.0
    (λ told is. c.in_err-kept.ensures.loaded _ (same-table _ _ _ _ c.table.ensures (c.in_ok-own.ensures.fetched told is))) c.in_err-kept.ensures.line)

pub returns-clause-answered : goal.returns-clause-answered
returns-clause-answered g c = c.in-Ok-load_service.ensures.answered (not-error _ _) ∙ c.in_ok-own.ensures.answered (not-error _ _)

pub returns-clause-begun : goal.returns-clause-begun
returns-clause-begun g c =
    let same = c.in_ok-own.ensures.same in
    by-line c.networks_are_begun_alike.ensures c.in-Ok-load_service.ensures.new
    (was-loaded c.in-Ok.ensures.ok (λ told is. c.in-Ok-load_service.ensures.exact told (same ∙ is)) (λ told rows is are. c.in-Ok-load_service.ensures.network told rows (same ∙ is) are))
    (λ told is. c.in_ok-kept.ensures.loaded _ (same-table _ _ _ _ c.table.ensures (c.in_ok-own.ensures.fetched told is))) c.networks_are_written_alike.ensures
