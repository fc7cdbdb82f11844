-- `dates::followed` meets its contract: the index is at the source, or passes the limit, or is followed down; the node falls from call to call.
use Rattle.std.proofs.Common.{arith, zero-add}
use Rattle.dates.proofs.Follow.{source_gives, step_range, passing_gives, next_gives}
use Rattle.dates.proofs.+followed.Goals as goal

pub returns-then-i-eq0 : goal.returns-then-i-eq0
returns-then-i-eq0 t c = source_gives c.requires (omega arith) c.if-i-eq0.true c.at_source.ensures

pub index_before-before-requires : goal.index_before-before-requires
index_before-before-requires t c = rw zero-add (step_range c.requires (omega arith) (omega (arith, c.if-i-eq0.false)))

pub returns-then-before-gt-LIMIT : goal.returns-then-before-gt-LIMIT
returns-then-before-gt-LIMIT t c =
    passing_gives c.requires (omega arith) (omega (arith, c.if-i-eq0.false)) (rw zero-add at c.index_before-before.ensures) c.if-before-gt-LIMIT.true

pub returns : goal.returns
returns t c = next_gives c.requires (omega arith) (omega (arith, c.if-i-eq0.false)) (rw zero-add at c.index_before-before.ensures) c.followed.ensures
