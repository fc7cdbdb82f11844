-- `recorder::lost` meets its contract: at a finish the firing takes effect without its production; at the source 13 takes the loss back, or the tick of work follows.
use Rattle.recorder.specs.Lost.{lost_loses, source_completes, source_works}
use Rattle.recorder.proofs.lost.Goals as goal

pub loss-requires : goal.loss-requires
loss-requires c = lost_loses c.if-at-gt0.true c.requires

pub completed-requires : goal.completed-requires
completed-requires c = rw c.loss-2.ensures (source_completes c.if-at-gt0.false c.dues-due.ensures c.in_default.ensures c.chosen-node.ensures c.requires)

pub returns : goal.returns
returns c = source_works c.if-at-gt0.false c.dues-due.ensures c.in_default.ensures c.chosen-node.ensures c.loss-2.ensures c.in_ok-completed.ensures
