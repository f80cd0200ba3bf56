use Rattle.std.proofs.Common.{rules, sym, subst}
use Rattle.graph_edit.specs.Values.{Gives}
use Rattle.cancel_reroute.proofs.ExtraLemmas.{run_rank}
use Rattle.cancel_reroute.proofs.extra.check_run.Goals as goal

pub returns-in_err-next_calls : goal.returns-in_err-next_calls
returns-in_err-next_calls c =
    subst (Gives c.from_residual-in_err-next_calls.result) (sym (run_rank c.args.g.now.network.opts c.args.train c.args.route c.args.calls.now c.first-item.result c.last-item.result c.requires.two c.first-item.is c.last-item.is)) (search rules)

pub returns : goal.returns
returns c =
    subst (Gives c.next_call-2.result) (sym (run_rank c.args.g.now.network.opts c.args.train c.args.route c.args.calls.now c.first-item.result c.last-item.result c.requires.two c.first-item.is c.last-item.is)) (search rules)
