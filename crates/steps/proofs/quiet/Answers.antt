-- `steps::quiet` meets its contract: the source fires first, or it does not.
use Rattle.std.proofs.Common.{rules}
use Rattle.steps.specs.Jumped.{quiet_first}
use Rattle.steps.proofs.quiet.Goals as goal

pub returns : goal.returns
returns c = quiet_first c.requires c.unfinished-ticks.ensures c.if-rest-eq0.false (search rules)
