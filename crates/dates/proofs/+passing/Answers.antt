-- `dates::passing` meets its contract: the index is at the source, or is followed down, or passes the limit; the node falls from call to call.
use Rattle.std.proofs.Common.{arith, zero-add}
use Rattle.dates.proofs.Follow.{source_place, step_range, passing_place, next_place}
use Rattle.dates.proofs.+passing.Goals as goal

pub returns-then-i-eq0 : goal.returns-then-i-eq0
returns-then-i-eq0 t c = source_place c.requires (omega arith) c.if-i-eq0.true

pub index_before-before-requires : goal.index_before-before-requires
index_before-before-requires t c = rw zero-add (step_range c.requires (omega arith) (omega (arith, c.if-i-eq0.false)))

pub returns-then-before-le-LIMIT : goal.returns-then-before-le-LIMIT
returns-then-before-le-LIMIT t c =
    next_place c.requires (omega arith) (omega (arith, c.if-i-eq0.false)) (rw zero-add at c.index_before-before.ensures) c.passing.ensures

pub returns : goal.returns
returns t c = passing_place c.requires (omega arith) (omega (arith, c.if-i-eq0.false)) (rw zero-add at c.index_before-before.ensures) c.if-before-le-LIMIT.false
