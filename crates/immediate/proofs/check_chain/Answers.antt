-- `immediate::check_chain` says what the answer of a chain that is to be run says.
use Rattle.sizing.proofs.AcceptedLaws.{run_said}
use Rattle.immediate.proofs.check_chain.Goals as goal

pub returns-in-Ok : goal.returns-in-Ok
returns-in-Ok c = run_said _ (rw c.in-Ok.is at c.checked_for_run.ensures)

pub returns-in-Err : goal.returns-in-Err
returns-in-Err c = run_said _ (rw c.in-Err.is at c.checked_for_run.ensures)
