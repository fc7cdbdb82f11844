-- Before number j is written, the first j numbers are, each in at most as many bytes as the longest column.
use Rattle.std.proofs.Common.{◌+◌, ◌*◌, ◌≤◌, take}
use Rattle.words.specs.Writer.{Wrote}
use Rattle.reporttext.specs.Text.{columns, numbers}
use Rattle.reporttext.specs.Short.{longest_column}
use Rattle.reporttext.proofs.put_numbers.Given as goal

abbrev pub invariant-loop-n : goal.invariant-loop-n
invariant-loop-n l = record {
  written : Wrote l.fn.out (numbers (take l.n-index (columns l.i l.q))) l.out;
  short : l.out.at ≤ l.fn.out.at + longest_column * l.n-index;
}
