-- `sizing::Walk::advance` meets its contract: the rate is that of the node which queue i feeds, and where 6 is not said the walk has come to it.
use Rattle.sizing.proofs.Walking.{walk_step, walk_more}
use Rattle.sizing.proofs.Walk.advance.Goals as goal

pub rate_after-rate-requires : goal.rate_after-rate-requires
rate_after-rate-requires c = walk_step c.requires c.parted-row.ensures

pub returns-clause-walked : goal.returns-clause-walked
returns-clause-walked c = walk_more c.requires c.parted-row.ensures c.rate_after-rate.ensures c.is_too_large.ensures c.in_ok-test.ensures c.busy_after-busy.ensures
