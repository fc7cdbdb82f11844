-- The queues before the one at hand have no reason of 17.
use Rattle.chain.proofs.Passing.{Passed}
use Rattle.state.specs.Checks.{state_test_with}
use Rattle.state.proofs.state_check_with.Given as goal

abbrev pub invariant-loop-i : goal.invariant-loop-i
invariant-loop-i l = Passed (state_test_with l.chain l.run l.lost) l.chain.n l.i
