-- `ticks::passes` meets its contract: before each pass a state is lent whose ticks up to the end leave what all of them leave (`Going`).
use Rattle.std.proofs.Common.{◌-◌}
use Rattle.ticks.specs.Passes.{Going}
use Rattle.ticks.proofs.passes.Given as goal

abbrev pub invariant-loop-clock : goal.invariant-loop-clock
invariant-loop-clock l = Going l.plan l.initial.flow l.initial.done l.start l.length l.flow l.due l.done l.clock l.until l.choice

abbrev pub decreases-loop-clock : goal.decreases-loop-clock
decreases-loop-clock l = l.until - l.clock
