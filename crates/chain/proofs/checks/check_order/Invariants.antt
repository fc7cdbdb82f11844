-- The rows before the one at hand pass.
use Rattle.std.proofs.Common.{◌+◌, ◌*◌}
use Rattle.chain.specs.Record.{row_of}
use Rattle.chain.specs.Checks.{overdrawn}
use Rattle.chain.proofs.Passing.{Passed}
use Rattle.chain.proofs.checks.check_order.Given as goal

abbrev pub invariant-loop-i : goal.invariant-loop-i
invariant-loop-i l = Passed (λ k. overdrawn (row_of l.chain k) (l.q + 20 * k)) l.chain.n l.i
