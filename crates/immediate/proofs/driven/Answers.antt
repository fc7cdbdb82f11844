-- `immediate::driven`: the goals that the check leaves, with the invariant of `Invariants.antt`.
use Rattle.std.proofs.Common.{◌∙◌}
use Rattle.immediate.proofs.LentLaws.{driving_none, driving_fire, driving_more, driving_done}
use Rattle.immediate.proofs.driven.Goals as goal

pub loop-init : goal.loop-init
loop-init c = driving_none _ _

pub fire-requires : goal.fire-requires
fire-requires c = driving_fire c.loop.invariant c.requires c.started-flow.ensures c.loop-test.true

pub loop-preserved : goal.loop-preserved
loop-preserved c = driving_more c.loop.invariant c.loop-test.true c.fire.ensures

pub returns : goal.returns
returns c = c.shown.ensures ∙ driving_done c.loop.invariant c.requires c.started-flow.ensures c.loop-test.false
