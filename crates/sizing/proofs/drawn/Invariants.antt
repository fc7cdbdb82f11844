-- Before queue i the walk has come to N_i, and the plan has the queues before it.
use Rattle.sizing.proofs.Drawing.{Drawing}
use Rattle.sizing.proofs.drawn.Given as goal

abbrev pub invariant-loop-i : goal.invariant-loop-i
invariant-loop-i l = Drawing l.chain l.i l.walk l.short l.plan
