-- `immediate::fire` and `immediate::settle` end: the number of queues left towards the sink falls from call to call, and what the queue
-- that is settled holds from firing to firing.
use Rattle.std.proofs.Common.{◌-◌, ◌*◌}
use Rattle.flow.specs.Flow.{held_in, size_in}
use Rattle.immediate.specs.Lent.{Going}
use Rattle.immediate.proofs.+fire_settle.Given as goal

abbrev pub decreases-fire : goal.decreases-fire
decreases-fire l = 2 * (size_in l.flow.now - l.i)

abbrev pub decreases-settle : goal.decreases-settle
decreases-settle l = 2 * (size_in l.flow.now - l.q) - 1

abbrev pub invariant-settle-loop-flow : goal.invariant-settle-loop-flow
invariant-settle-loop-flow l = Going l.initial.flow l.q l.flow

abbrev pub decreases-settle-loop-flow : goal.decreases-settle-loop-flow
decreases-settle-loop-flow l = held_in l.flow l.q
