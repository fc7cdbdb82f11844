-- `steps::completed` meets its contract: by what its three steps ensure.
use Rattle.steps.specs.Completed.{complete_goes, complete_fires, complete_spills}
use Rattle.steps.proofs.completed.Goals as goal

pub returns-then-not-has_ended : goal.returns-then-not-has_ended
returns-then-not-has_ended c = complete_goes c.worked.ensures c.has_ended.ensures c.if-not-has_ended.true

pub returns-then-finished : goal.returns-then-finished
returns-then-finished c = complete_fires c.worked.ensures c.has_ended.ensures c.if-not-has_ended.false c.finished.ensures c.if-finished.true

pub returns : goal.returns
returns c = complete_spills c.worked.ensures c.has_ended.ensures c.if-not-has_ended.false c.finished.ensures c.if-finished.false
