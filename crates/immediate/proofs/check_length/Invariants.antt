-- `immediate::check_length` meets its contract: before node i is looked at, no count before it passes the limit.
use Rattle.immediate.specs.Long.{Passing}
use Rattle.immediate.proofs.check_length.Given as goal

abbrev pub invariant-loop-i : goal.invariant-loop-i
invariant-loop-i l = Passing l.chain l.k l.count l.i
