-- `chainfile::writer::put_times` meets its contract: behind the words before it, one word more is put.
use Rattle.std.proofs.Common.{◌<◌, arith}
use Rattle.std.proofs.lemmas.List.{length-take, get_or-take}
use Rattle.chainfile.proofs.Writing.{table_put}
use Rattle.chainfile.proofs.writer.put_times.Goals as goal

pub loop-e-preserved : goal.loop-e-preserved
loop-e-preserved c =
    let a = c.args.chain.now in
    let inside : c.loop-e.e-index < a.n = omega (arith, length-take a.n a.work) in
    table_put _ _ c.loop-e.invariant (rw get_or-take at c.word.ensures)
