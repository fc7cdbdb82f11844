-- `flow::effect` meets its contract: what is produced has room, and what is consumed is there.
use Rattle.flow.specs.Flow.{firing, ready_puts, ready_takes}
use Rattle.flow.proofs.effect.Goals as goal

pub produce-requires : goal.produce-requires
produce-requires c = ready_puts c.requires

pub consume-requires : goal.consume-requires
consume-requires c = rw c.produce.ensures (ready_takes c.requires)

pub returns : goal.returns
unfolding firing
returns c = rw (c.consume.ensures, c.produce.ensures)
