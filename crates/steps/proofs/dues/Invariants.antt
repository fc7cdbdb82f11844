-- `steps::dues` meets its contract: before node j+1 is looked at, the deadlines that are wanted of the nodes up to j are there.
use Rattle.steps.specs.Dued.{Dued}
use Rattle.steps.proofs.dues.Given as goal

abbrev pub invariant-loop-j : goal.invariant-loop-j
invariant-loop-j l = Dued l.plan l.flow l.every l.j l.due
