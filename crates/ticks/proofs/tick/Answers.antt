-- `ticks::tick` meets its contract: the chain may not run, or the state is damaged, or clock or count is at its end, or the tick is made.
use Rattle.std.proofs.Common.{refl}
use Rattle.state.specs.Checks.{planned_run}
use Rattle.ticks.proofs.Answers.{few, tick_lends, tick_answers}
use Rattle.ticks.proofs.tick.Goals as goal

pub state_check-requires : goal.state_check-requires
state_check-requires c = planned_run c.in_ok-planned_for_run.ensures refl

pub late_check-requires : goal.late_check-requires
late_check-requires c = few c.in_ok-planned_for_run.ensures

pub showing-flow-requires : goal.showing-flow-requires
showing-flow-requires c = (planned_run c.in_ok-planned_for_run.ensures refl).chain

pub passes-ended-requires : goal.passes-ended-requires
passes-ended-requires c = tick_lends _ _ c.in_ok-planned_for_run.ensures c.in_ok-state_check.ensures c.in_ok-late_check.ensures c.showing-flow.ensures

pub returns : goal.returns
returns c = rw c.left.ensures (tick_answers _ _ c.in_ok-planned_for_run.ensures c.in_ok-state_check.ensures c.in_ok-late_check.ensures c.showing-flow.ensures c.passes-ended.ensures)
