-- `dates::deadline` meets its contract: where the node and the firing exist, 13 or the deadline is the answer.
use Rattle.dates.proofs.Answers.{asked_dues, asked_answers}
use Rattle.dates.proofs.deadline.Goals as goal

pub due-requires : goal.due-requires
due-requires c = asked_dues c.in_ok-planned_for_run.ensures c.in_ok-test.ensures c.started-flow.ensures

pub returns : goal.returns
returns c = asked_answers c.in_ok-planned_for_run.ensures c.in_ok-test.ensures c.started-flow.ensures _ c.due.ensures
