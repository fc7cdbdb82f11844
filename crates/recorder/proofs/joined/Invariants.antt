-- `recorder::joined` meets its contract: before each loss is taken, what the recording ticks leave is how they go on from what the deadline ticks have left (`Carrying`).
use Rattle.std.proofs.Common.{◌-◌, ◌≤◌, IfOk}
use Rattle.recorder.specs.Joined.{Carrying}
use Rattle.recorder.proofs.joined.Given as goal

abbrev pub invariant-loop-tick : goal.invariant-loop-tick
invariant-loop-tick l = Carrying l.plan l.initial.flow l.initial.done l.initial.list l.until l.initial.ended l.flow l.done l.ended l.list × IfOk l.ended (λ t. l.until ≤ t)

abbrev pub decreases-loop-tick : goal.decreases-loop-tick
decreases-loop-tick l = 256 - l.list.count
