-- `flow::loss` meets its contract: it is the two steps one after the other.
use Rattle.flow.specs.Lost.{losing}
use Rattle.flow.proofs.loss.Goals as goal

pub returns : goal.returns
unfolding losing
returns c = c.consume.ensures
