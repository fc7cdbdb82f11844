-- `chainfile::writer::put_rows` meets its contract: behind the rows before it, one row more is put.
use Rattle.std.proofs.Common.{◌<◌, arith}
use Rattle.std.proofs.lemmas.List.{length-take, get_or-take}
use Rattle.chainfile.proofs.Writing.{table_put}
use Rattle.chainfile.proofs.writer.put_rows.Goals as goal

pub loop-q-preserved : goal.loop-q-preserved
loop-q-preserved c =
    let a = c.args.chain.now in
    let inside : c.loop-q.q-index < a.n = omega (arith, length-take a.n a.queues) in
    table_put _ _ c.loop-q.invariant (rw get_or-take at c.row.ensures)
