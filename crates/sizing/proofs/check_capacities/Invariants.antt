-- The queues before the one at hand pass.
use Rattle.chain.proofs.Passing.{Passed}
use Rattle.sizing.specs.Checks.{short_test}
use Rattle.sizing.proofs.check_capacities.Given as goal

abbrev pub invariant-loop-i : goal.invariant-loop-i
invariant-loop-i l = Passed (short_test l.analysis) l.analysis.n l.i
