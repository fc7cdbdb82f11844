-- Before word i is written, the first i words are.
use Rattle.words.specs.Writer.{Wrote}
use Rattle.words.specs.Words.{bytes_of}
use Rattle.chainfile.specs.Packed.{nodes}
use Rattle.chainfile.proofs.writer.put_times.Given as goal

abbrev pub invariant-loop-e : goal.invariant-loop-e
invariant-loop-e l = Wrote l.fn.out (bytes_of (nodes l.chain l.e-index)) l.out
