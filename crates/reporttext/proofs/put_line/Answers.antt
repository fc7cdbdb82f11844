-- `reporttext::put_line` meets its contract: the numbers, the margin, which is a number of 32 bits, and the line feed.
use Rattle.std.proofs.Common.{FitsSigned, w32, rules, arith}
use Rattle.std.proofs.lemmas.Int.{to_z-of_z}
use Rattle.words.specs.Writer.{next}
use Rattle.reporttext.specs.Text.{line}
use Rattle.reporttext.proofs.put_line.Goals as goal

pub returns : goal.returns
unfolding line
returns c =
    let h : FitsSigned w32 c.args.q.now.margin = search rules in
    (next c.put_numbers.ensures.0 (next (rw (to_z-of_z w32 c.args.q.now.margin h) at c.put_integer.ensures.0) c.byte.ensures), omega arith)
