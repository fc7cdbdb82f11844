-- `flow::produce` meets its contract: a queue behind the node gets what is produced.
use Rattle.std.proofs.Common.{zero-add, lt-ltb, le-ltb}
use Rattle.flow.specs.Flow.{put_in}
use Rattle.flow.proofs.produce.Goals as goal

pub returns-then-i-n : goal.returns-then-i-n
unfolding put_in
returns-then-i-n c = rw zero-add (simp (lt-ltb _ _ c.if-i-n.true))

pub returns-else-i-n : goal.returns-else-i-n
unfolding put_in
returns-else-i-n c = simp (le-ltb _ _ c.if-i-n.false)
