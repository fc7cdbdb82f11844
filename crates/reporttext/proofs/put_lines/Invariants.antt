-- Before queue i's line is written, the first i lines are, each in at most as many bytes as the longest line.
use Rattle.std.proofs.Common.{◌+◌, ◌*◌, ◌≤◌}
use Rattle.words.specs.Writer.{Wrote}
use Rattle.reporttext.specs.Text.{lines}
use Rattle.reporttext.specs.Short.{longest_line}
use Rattle.reporttext.proofs.put_lines.Given as goal

abbrev pub invariant-loop-i : goal.invariant-loop-i
invariant-loop-i l = record {
  written : Wrote l.fn.out (lines l.analysis l.i) l.out;
  short : l.out.at ≤ l.fn.out.at + longest_line * l.i;
}
