-- The nodes before the one at hand pass.
use Rattle.std.proofs.Common.{suc}
use Rattle.chain.proofs.Passing.{Passed}
use Rattle.instants.specs.Checks.{spent_test}
use Rattle.ticks.proofs.late_check.Given as goal

abbrev pub invariant-loop-i : goal.invariant-loop-i
invariant-loop-i l = Passed (spent_test l.run) (suc l.chain.n) l.i
