-- The rows before the one at hand are fine.
use Rattle.chain.specs.Record.{row_of, work_of}
use Rattle.chain.specs.Faults.{AllFine}
use Rattle.chain.proofs.checks.are_fine.Given as goal

abbrev pub invariant-loop-i : goal.invariant-loop-i
invariant-loop-i l = AllFine (row_of l.chain) (work_of l.chain) l.i
