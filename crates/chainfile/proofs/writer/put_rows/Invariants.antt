-- Before row i is written, the first i rows are.
use Rattle.words.specs.Writer.{Wrote}
use Rattle.words.specs.Words.{bytes_of}
use Rattle.chainfile.specs.Packed.{rows}
use Rattle.chainfile.proofs.writer.put_rows.Given as goal

abbrev pub invariant-loop-q : goal.invariant-loop-q
invariant-loop-q l = Wrote l.fn.out (bytes_of (rows l.chain l.q-index)) l.out
