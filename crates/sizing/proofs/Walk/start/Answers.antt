-- `sizing::Walk::start` meets its contract: the source's rate, and no load.
use Rattle.std.proofs.Common.{refl, arith}
use Rattle.chain.proofs.Passing.{passed_none}
use Rattle.rates.specs.Load.{capped}
use Rattle.sizing.specs.Nodes.{x_of, y_of}
use Rattle.sizing.specs.Load.{busy_in}
use Rattle.sizing.specs.Checks.{rate_test}
use Rattle.sizing.proofs.Walk.start.Goals as goal

pub returns : goal.returns
unfolding x_of y_of busy_in capped
returns c =
    let chain = c.args.chain.now in
    record { firings = refl; ticks = refl; load = omega arith; rates = passed_none (rate_test chain) chain.n }
