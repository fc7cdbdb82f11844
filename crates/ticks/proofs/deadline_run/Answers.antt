-- `ticks::deadline_run` meets its contract: the chain may not run, or the run is too long, or its ticks are made.
use Rattle.std.proofs.Common.{refl}
use Rattle.state.specs.Checks.{planned_run}
use Rattle.ticks.proofs.Answers.{run_lends, run_answers}
use Rattle.ticks.proofs.deadline_run.Goals as goal

pub started-flow-requires : goal.started-flow-requires
started-flow-requires c = (planned_run c.in_ok-planned_for_run.ensures refl).chain

pub passes-ended-requires : goal.passes-ended-requires
passes-ended-requires c = run_lends _ _ c.in_ok-planned_for_run.ensures c.in_ok-test.ensures c.started-flow.ensures

pub returns : goal.returns
returns c = rw c.left.ensures (run_answers _ _ c.in_ok-planned_for_run.ensures c.in_ok-test.ensures c.started-flow.ensures c.passes-ended.ensures)
