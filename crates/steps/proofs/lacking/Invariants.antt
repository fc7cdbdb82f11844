-- `steps::lacking` meets its contract: before node j+1 is looked at, 13 says nothing of the nodes up to j.
use Rattle.steps.specs.Scans.{Looked}
use Rattle.steps.proofs.lacking.Given as goal

abbrev pub invariant-loop-j : goal.invariant-loop-j
invariant-loop-j l = Looked l.flow l.due l.j
