-- `recorder::onward` meets its contract: a halt stands, or the ticks that are left follow.
use Rattle.recorder.specs.Lost.{onward_ran}
use Rattle.recorder.proofs.onward.Goals as goal

pub returns : goal.returns
returns c = rw c.in_ok-clock.was (onward_ran c.if-until-clock.false (rw c.in_ok-clock.was at c.requires) c.passes.ensures)
