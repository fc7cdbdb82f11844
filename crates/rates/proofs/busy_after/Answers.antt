-- `rates::busy_after` meets its contract: a sum above y is capped, by the definition.
use Rattle.rates.specs.Load.{capped}
use Rattle.rates.proofs.busy_after.Goals as goal

pub returns : goal.returns
unfolding capped
returns c = cc
