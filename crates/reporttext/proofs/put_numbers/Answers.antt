-- `reporttext::put_numbers` meets its contract: before number j is written, the first j numbers are, and one number more is put behind them.
use Rattle.std.proofs.Common.{arith}
use Rattle.reporttext.proofs.Lines.{numbers_none, numbers_more}
use Rattle.reporttext.proofs.put_numbers.Goals as goal

pub loop-n-init : goal.loop-n-init
loop-n-init c = record { written = numbers_none _; short = omega arith }

pub loop-n-preserved : goal.loop-n-preserved
loop-n-preserved c =
    let l = c.loop-n in
    record {
      written = numbers_more _ l.n-index (omega arith) l.invariant.written c.put_column.ensures.0;
      short = omega arith;
    }
