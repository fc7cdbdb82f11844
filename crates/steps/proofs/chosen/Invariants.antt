-- `steps::chosen` meets its contract: before node j+1 is looked at, the choice among the nodes up to j is at hand, with its deadline.
use Rattle.steps.specs.Scans.{Chosen}
use Rattle.steps.proofs.chosen.Given as goal

abbrev pub invariant-loop-j : goal.invariant-loop-j
invariant-loop-j l = Chosen l.flow l.due l.j l.node l.earliest
