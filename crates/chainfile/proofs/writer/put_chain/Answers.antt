-- `chainfile::writer::put_chain` meets its contract: header, queue table and node table, one writer after the other.
use Rattle.words.specs.Writer.{ended}
use Rattle.chainfile.proofs.Writing.{file_put}
use Rattle.chainfile.proofs.writer.put_chain.Goals as goal

pub returns : goal.returns
returns c = ended c.new-writer.ensures (file_put _ c.put_header.ensures c.put_rows.ensures c.put_times.ensures) search
