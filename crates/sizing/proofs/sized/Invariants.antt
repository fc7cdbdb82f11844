-- Before queue i the walk has come to N_i, and the lines before it are made.
use Rattle.sizing.proofs.Filling.{Filling}
use Rattle.sizing.proofs.sized.Given as goal

abbrev pub invariant-loop-i : goal.invariant-loop-i
invariant-loop-i l = Filling l.chain l.i l.walk l.queues
