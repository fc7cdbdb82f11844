-- `arith::gcd` gives the greatest common divisor: a gcd with 0 is the other number; else the loop keeps `Turn`, and the sum of its numbers falls.
use Rattle.std.proofs.Common.{◌+◌}
use Rattle.arith.specs.Binary.{Turn}
use Rattle.arith.proofs.gcd.Given as goal

abbrev pub invariant-loop-x : goal.invariant-loop-x
invariant-loop-x l = Turn l.a l.b l.x l.y

abbrev pub decreases-loop-x : goal.decreases-loop-x
decreases-loop-x l = l.x + l.y
