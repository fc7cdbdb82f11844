-- `onequeue::margin` answers the margin: both numbers take less than half of 32 bits.
use Rattle.std.proofs.Common.{arith}
use Rattle.std.proofs.lemmas.Int.{ints}
use Rattle.onequeue.specs.Capacity.{margin}
use Rattle.onequeue.proofs.margin.Goals as goal

pub returns : goal.returns
unfolding margin
returns c = grind (arith, ints)
