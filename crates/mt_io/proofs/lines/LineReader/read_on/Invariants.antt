use Rattle.std.proofs.Common.{◌≡◌, ◌≤◌, ◌-◌, ◌+◌, [], true, if◌then◌else◌}
use Rattle.mt_io.specs.Reader.{GivesNext, work}
use Rattle.mt_io.specs.Steps.{Waits}
use Rattle.mt_io.proofs.lines.LineReader.read_on.Given as goal

abbrev pub invariant-loop-self : goal.invariant-loop-self
invariant-loop-self g l = record {
  gives : GivesNext l.initial.self l.self (g.S.Source.left l.initial.source) (g.S.Source.left l.source) [];
  waits : Waits l.self;
  faults : g.S.Source.faults l.source ≡ g.S.Source.faults l.initial.source;
  work : work l.self ≤ work l.initial.self;
  ended : l.initial.self.ended ≡ true → l.source ≡ l.initial.source;
  spent : l.initial.self.taken ≡ l.initial.self.budget → l.source ≡ l.initial.source;
}

abbrev pub decreases-loop-self : goal.decreases-loop-self
decreases-loop-self g l = l.self.budget - l.self.taken + (if l.self.ended then 0 else 1)
