-- `recorder::recording_run` meets its contract: the chain is refused, or the run is too long, or its ticks go on from each loss.
use Rattle.std.proofs.Common.{refl, sym, zero-add}
use Rattle.state.specs.Checks.{planned_sized}
use Rattle.recorder.specs.Joined.{carries_joins}
use Rattle.recorder.proofs.Answers.{run_carries, run_answers}
use Rattle.recorder.proofs.recording_run.Goals as goal

pub started-flow-requires : goal.started-flow-requires
started-flow-requires c = (planned_sized c.in_ok-planned.ensures refl).chain

pub passes-first-requires : goal.passes-first-requires
passes-first-requires c = (run_carries _ _ c.in_ok-planned.ensures c.in_ok-test.ensures c.started-flow.ensures).lends

pub joined-ended-requires : goal.joined-ended-requires
joined-ended-requires c = carries_joins (sym (zero-add _)) (run_carries _ _ c.in_ok-planned.ensures c.in_ok-test.ensures c.started-flow.ensures) c.passes-first.ensures

pub returns : goal.returns
returns c = rw (c.outcome.ensures, c.left.ensures) (run_answers _ _ c.in_ok-planned.ensures c.in_ok-test.ensures c.started-flow.ensures c.passes-first.ensures c.joined-ended.ensures)
