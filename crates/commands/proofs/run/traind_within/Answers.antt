use Rattle.command_words.specs.declared.words.Command.TheVariants.{Times, Serve, Check, Plans}
use Rattle.command_words.specs.declared.words.Command.TheVariants.{Watch, Desk, Journal, Restart, Follow}
use Rattle.commands.proofs.Works.{by-command}
use Rattle.commands.proofs.run.traind_within.Goals as goal

pub returns-in-Times-clause-contract : goal.returns-in-Times-clause-contract
returns-in-Times-clause-contract g c = λ gen. by-command _ _ _ _ _ _ _ _ _ _ _ _ _ c.command_for.result Times c.command_for.ensures c.in-Times.is c.run_times.ensures.contract

pub returns-in-Serve-clause-contract : goal.returns-in-Serve-clause-contract
returns-in-Serve-clause-contract g c = λ gen. by-command _ _ _ _ _ _ _ _ _ _ _ _ _ c.command_for.result Serve c.command_for.ensures c.in-Serve.is c.run_serve.ensures.contract

pub returns-in-Check-clause-contract : goal.returns-in-Check-clause-contract
returns-in-Check-clause-contract g c = λ gen. by-command _ _ _ _ _ _ _ _ _ _ _ _ _ c.command_for.result Check c.command_for.ensures c.in-Check.is c.run_lines.ensures.contract

pub returns-in-Plans-clause-contract : goal.returns-in-Plans-clause-contract
returns-in-Plans-clause-contract g c = λ gen. by-command _ _ _ _ _ _ _ _ _ _ _ _ _ c.command_for.result Plans c.command_for.ensures c.in-Plans.is c.run_lines-in-Plans.ensures.contract

pub returns-in-Watch-clause-contract : goal.returns-in-Watch-clause-contract
returns-in-Watch-clause-contract g c = λ gen. by-command _ _ _ _ _ _ _ _ _ _ _ _ _ c.command_for.result Watch c.command_for.ensures c.in-Watch.is c.run_lines-in-Watch.ensures.contract

pub returns-in-Desk-clause-contract : goal.returns-in-Desk-clause-contract
returns-in-Desk-clause-contract g c = λ gen. by-command _ _ _ _ _ _ _ _ _ _ _ _ _ c.command_for.result Desk c.command_for.ensures c.in-Desk.is c.run_lines-in-Desk.ensures.contract

pub returns-in-Journal-clause-contract : goal.returns-in-Journal-clause-contract
returns-in-Journal-clause-contract g c = λ gen. by-command _ _ _ _ _ _ _ _ _ _ _ _ _ c.command_for.result Journal c.command_for.ensures c.in-Journal.is c.run_lines-in-Journal.ensures.contract

pub returns-in-Restart-clause-contract : goal.returns-in-Restart-clause-contract
returns-in-Restart-clause-contract g c = λ gen. by-command _ _ _ _ _ _ _ _ _ _ _ _ _ c.command_for.result Restart c.command_for.ensures c.in-Restart.is c.run_lines-in-Restart.ensures.contract

pub returns-in-Follow-clause-contract : goal.returns-in-Follow-clause-contract
returns-in-Follow-clause-contract g c = λ gen. by-command _ _ _ _ _ _ _ _ _ _ _ _ _ c.command_for.result Follow c.command_for.ensures c.in-Follow.is c.run_follow.ensures.contract
