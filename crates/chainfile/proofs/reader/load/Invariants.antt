-- Before row i both readers stand at their parts of the file, the slots before it are filled, and it is known whether their rows are fine.
use Rattle.chainfile.proofs.Reading.{Loading}
use Rattle.chainfile.proofs.reader.load.Given as goal

abbrev pub invariant-loop-i : goal.invariant-loop-i
invariant-loop-i l = Loading l.file l.i l.rows l.times l.chain l.fine
