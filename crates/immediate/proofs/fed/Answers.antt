-- `immediate::fed` meets its contract: the count follows F's two cases.
use Rattle.std.proofs.Common.{sym, zero-add}
use Rattle.events.proofs.CountsLaws.{fires_below}
use Rattle.events.proofs.FiresFrom.{fires_from}
use Rattle.immediate.proofs.fed.Goals as goal

pub returns-then-put-threshold : goal.returns-then-put-threshold
returns-then-put-threshold c =
    rw zero-add (sym (fires_below _ c.args.q.consume _ (rw (c.from.ensures, c.from-threshold.ensures) at c.if-put-threshold.true)))

pub returns : goal.returns
returns c =
    rw (zero-add, c.from.ensures, c.from-threshold.ensures, c.from-2.ensures)
    (sym (fires_from _ _ _ (rw (c.from.ensures, c.from-threshold.ensures) at c.if-put-threshold.false)))
