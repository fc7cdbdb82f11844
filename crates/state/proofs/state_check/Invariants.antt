-- The queues before the one at hand have no reason of 17.
use Rattle.chain.proofs.Passing.{Passed}
use Rattle.state.specs.Checks.{state_test}
use Rattle.state.proofs.state_check.Given as goal

abbrev pub invariant-loop-i : goal.invariant-loop-i
invariant-loop-i l = Passed (state_test l.chain l.run) l.chain.n l.i
