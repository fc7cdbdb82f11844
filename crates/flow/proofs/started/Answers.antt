-- `flow::started`: the goals that the check leaves, with the invariant of `Invariants.antt`.
use Rattle.flow.specs.Shown.{entered_none, entered_shows}
use Rattle.flow.proofs.started.Goals as goal

pub loop-i-init : goal.loop-i-init
loop-i-init c = entered_none _

pub returns : goal.returns
returns c = entered_shows c.requires c.loop-i-test.false c.loop-i.invariant
