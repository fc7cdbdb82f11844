-- `onequeue::capacity` answers the capacity in force: the definition's two cases are the code's.
use Rattle.std.proofs.Common.{sym}
use Rattle.onequeue.specs.Capacity.{capacity}
use Rattle.onequeue.proofs.CapacityLaws.{capacity_written}
use Rattle.onequeue.proofs.capacity.Goals as goal

pub returns-then-written-eq0 : goal.returns-then-written-eq0
unfolding capacity
returns-then-written-eq0 c = rw c.if-written-eq0.true

pub returns-else-written-eq0 : goal.returns-else-written-eq0
returns-else-written-eq0 c = sym (capacity_written c.args.written c.args.minimum c.if-written-eq0.false)
