-- `flow::started` meets its contract: before queue i is filled in, the rows before it are, and no count or contents are there.
use Rattle.flow.specs.Shown.{Entered}
use Rattle.flow.proofs.started.Given as goal

abbrev pub invariant-loop-i : goal.invariant-loop-i
invariant-loop-i l = Entered l.chain l.i l.flow
