use Rattle.std.proofs.Common.{◌≤◌, ℕ, List, length, ap, arith}
use Rattle.command_words.specs.Held.{asked_view}
use Rattle.information_service.specs.ServiceState.{ServiceState}
use Rattle.journal_lines.specs.Lines.{text_of_head}
use Rattle.journal_replay.specs.Reading.{nothing_read}
use Rattle.journal_replay.proofs.Counts.{bytes-count}
use Rattle.commands.proofs.Restarting.{table-refused}
use Rattle.commands.proofs.own_loads.LoadJournalLoadBehindUnit.load.Goals as goal

pub returns-in-Ok-clause-count : goal.returns-in-Ok-clause-count
returns-in-Ok-clause-count c =
    let few : length c.in-Some.bytes.items ≤ 268435456 = rw c.in-Some.is at c.requires.few in
    omega (
      arith,
      bytes-count (text_of_head c.in_ok-head.head) (nothing_read c.args.service.now) c.as_slice.result.now,
      ap (λ (t : ServiceState). t.count) c.in-Ok.ensures.1,
      ap (λ (l : List ℕ). length l) c.as_slice.ensures.value,
      few,
      c.requires.new,
    )

pub returns-clause-loaded : goal.returns-clause-loaded
returns-clause-loaded c =
    table-refused (λ bytes. bytes.items) (asked_view c.args.asked.now) c.args.table c.in-Some.bytes c.in_ok-head.head c.as_slice.result.now c.args.service.now c.replay.new.service c.in-Err.refusal
    c.journal_fault.result c.in-Some.is c.in_ok-head.ensures c.as_slice.ensures.value c.in-Err.ensures c.journal_fault.ensures
