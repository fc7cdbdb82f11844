-- `recorder::joined`: the goals that the check leaves, with the invariant of `Invariants.antt`.
use Rattle.std.proofs.Common.{sym, zero-add}
use Rattle.recorder.specs.Joined.{carry_full, carry_lacks, carry_notes, carry_onward, carry_ends}
use Rattle.recorder.proofs.joined.Goals as goal

pub returns-then-list-eq-LONGEST : goal.returns-then-list-eq-LONGEST
returns-then-list-eq-LONGEST c = carry_full c.loop-tick.invariant.0 (sym c.in-Some.ensures) c.if-list-eq-LONGEST.true

pub returns-then-is_undated : goal.returns-then-is_undated
returns-then-is_undated c = carry_lacks c.loop-tick.invariant.0 (sym c.in-Some.ensures) c.if-list-eq-LONGEST.false c.lost-next.ensures (sym c.if-is_undated.ensures)

pub loop-tick-preserved : goal.loop-tick-preserved
loop-tick-preserved c =
    let noted = carry_notes c.loop-tick.invariant.0 (sym c.in-Some.ensures) c.if-list-eq-LONGEST.false c.lost-next.ensures (sym c.if-is_undated.ensures) (rw zero-add) in
    (carry_onward noted c.onward-ended.ensures, c.onward-ended.ensures.ends)

pub returns : goal.returns
returns c = carry_ends c.loop-tick.invariant.0 (sym c.in_default.ensures) c.loop-tick.invariant.1
