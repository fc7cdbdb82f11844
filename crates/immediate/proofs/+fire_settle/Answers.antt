-- `immediate::fire` and `immediate::settle` meet their contracts, together: the number of queues left towards the sink falls from call to
-- call, and what the queue that is settled holds from firing to firing.
use Rattle.std.proofs.Common.{arith}
use Rattle.immediate.proofs.LentLaws.{fire_ready, fire_size, fire_settles, fire_ends, fire_ends_sink, going_none, going_done, going_fire, going_more, going_less, settle_size, going_size}
use Rattle.immediate.proofs.+fire_settle.Goals as goal

pub fire-effect-requires : goal.fire-effect-requires
fire-effect-requires t c = fire_ready c.requires

pub fire-settle-requires : goal.fire-settle-requires
fire-settle-requires t c =
    let h = rw c.effect.ensures at c.if-i-n.true in
    rw c.effect.ensures (omega (arith, c.decreases, fire_size c.requires, h), fire_settles c.requires h)

pub fire-returns-then-i-n : goal.fire-returns-then-i-n
fire-returns-then-i-n t c =
    fire_ends (rw c.effect.ensures at c.if-i-n.true) (rw c.effect.ensures at c.settle.ensures)

pub fire-returns-else-i-n : goal.fire-returns-else-i-n
fire-returns-else-i-n t c = rw c.effect.ensures (fire_ends_sink (rw c.effect.ensures at c.if-i-n.false))

pub settle-loop-flow-init : goal.settle-loop-flow-init
settle-loop-flow-init t c = going_none

pub settle-fire-requires : goal.settle-fire-requires
settle-fire-requires t c =
    let g = c.loop-flow.invariant in
    (omega (arith, c.decreases, settle_size c.requires, going_size g c.requires), going_fire g (omega (arith, c.loop-flow-test.true)) c.requires)

pub settle-loop-flow-smaller : goal.settle-loop-flow-smaller
settle-loop-flow-smaller t c = going_less c.loop-flow.invariant (omega (arith, c.loop-flow-test.true)) c.fire.ensures c.requires

pub settle-loop-flow-preserved : goal.settle-loop-flow-preserved
settle-loop-flow-preserved t c = going_more c.loop-flow.invariant (omega (arith, c.loop-flow-test.true)) c.fire.ensures

pub settle-returns : goal.settle-returns
settle-returns t c = going_done c.loop-flow.invariant c.loop-flow-test.false
