-- `sizing::checked_for_run` looks at an analysis that was given, so it has few queues.
use Rattle.std.proofs.Common.{◌∙◌}
use Rattle.sizing.proofs.Answers.{analyse_sized, run_few}
use Rattle.sizing.proofs.checked_for_run.Goals as goal

pub check_capacities-requires : goal.check_capacities-requires
check_capacities-requires c = run_few c.args.chain (rw c.in-Ok.is at c.sized-outcome.ensures ∙ analyse_sized c.args.chain c.in_ok-check_chain.ensures)
