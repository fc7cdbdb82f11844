-- The rows before the one at hand pass.
use Rattle.std.proofs.Common.{◌+◌, ◌*◌}
use Rattle.chain.specs.Record.{work_of}
use Rattle.chain.specs.Sound.{node_range}
use Rattle.chain.proofs.Passing.{Passed}
use Rattle.chain.proofs.checks.check_nodes.Given as goal

abbrev pub invariant-loop-i : goal.invariant-loop-i
invariant-loop-i l = Passed (λ k. node_range (work_of l.chain k) (l.w + 4 * k)) l.chain.n l.i
