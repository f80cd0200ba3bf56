use Rattle.std.proofs.Common.{◌≡◌, [], List, sym, ◌∙◌, ap, refl}
use Rattle.std.specs.Option.{option_map_or}
use Rattle.delay_report.specs.Replies.{text_of_reply}
use Rattle.message_reader.specs.Resolved.{resolved}
use Rattle.standing_laws.specs.declared.standings.Alert.{Alert}
use Rattle.watch_answers.proofs.Kept.{kept-behind, text-silent, text-told, told-behind}
use Rattle.watch_answers.proofs.messages.message_text.Goals as goal
use Rattle.watch_answers.proofs.messages.message_text.Goals.{in-Some+in_ok-push_alerts, in_default}

pub returns-clause-fits : goal.returns-clause-fits
returns-clause-fits c =
    let t = c.args.service.now in
    let w = c.args.wire.now in
    rw c.in_ok-followed.ensures.next (kept-behind t w (resolved t.names w) c.args.kept.now c.in_ok-followed.followed.told c.take_followed.new.kept c.in_ok-followed.ensures.followed c.requires.fits)

pub returns-clause-text : goal.returns-clause-text
returns-clause-text c =
    let t = c.args.service.now in
    let read = resolved t.names c.args.wire.now in
    let names = c.take_followed.new.self.names in
    let both = told-behind t read c.args.kept.now c.in_ok-followed.followed.told c.take_followed.new.kept c.in_ok-followed.ensures.followed c.requires.fits in
    let replied : c.in_ok-text.text.items ≡ text_of_reply names c.in_ok-followed.followed.reply = rw c.directory.ensures at c.in_ok-text.ensures in
    let reply = replied ∙ ap (text_of_reply names) c.in_ok-followed.ensures.reply in
    record {
      text_is = elim c.match-followed-3.branch [
        | in-Some+in_ok-push_alerts w ↦
            let told : option_map_or (λ (alerts : List Alert). alerts) c.in_ok-followed.followed.told [] ≡ w.as_slice.result.now = rw (w.in-Some.is, w.as_slice.ensures) refl in
            text-told names c.args.line c.in_ok-text.text.items c.match-followed-3.text.items _ w.as_slice.result.now _
            (ap (λ t. t.items) w.text-is ∙ rw w.directory-in-Some.ensures at w.in_ok-push_alerts.ensures) reply (sym told ∙ both.0)
        | in_default w ↦
            let none : option_map_or (λ (alerts : List Alert). alerts) c.in_ok-followed.followed.told [] ≡ [] = rw w.in_default.is refl in
            text-silent names c.args.line c.match-followed-3.text.items _ _ (ap (λ t. t.items) w.text-is ∙ reply) (sym none ∙ both.0)
      ];
      kept_is = both.1;
    }
