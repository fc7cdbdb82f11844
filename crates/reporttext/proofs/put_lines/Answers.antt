-- `reporttext::put_lines` meets its contract: before queue i's line is written, the first i lines are, and one line more is put behind them.
use Rattle.std.proofs.Common.{◌<◌, arith}
use Rattle.std.proofs.lemmas.List.{length-take, get_or-take}
use Rattle.reporttext.proofs.Lines.{lines_none, lines_more}
use Rattle.reporttext.proofs.put_lines.Goals as goal

pub loop-i-init : goal.loop-i-init
loop-i-init c = record { written = lines_none _ _; short = omega arith }

pub loop-i-preserved : goal.loop-i-preserved
loop-i-preserved c =
    let a = c.args.analysis.now in
    let inside : c.loop-i.i < a.n = omega (arith, length-take a.n a.queues) in
    record {
      written = lines_more _ _ c.loop-i.invariant.written (rw get_or-take at c.put_line.ensures.0);
      short = omega arith;
    }
